use Rattle.std.proofs.Common.{◌≡◌, ◌≤◌, ◌+◌, drop}
use Rattle.cp_model.specs.Tree.{expanded_count}
use Rattle.cp_print.proofs.report.expanded_count.Given as goal

abbrev pub invariant-loop-label : goal.invariant-loop-label
invariant-loop-label l = (l.count + expanded_count (drop l.label-index l.labels) ≡ expanded_count l.labels) × (l.count ≤ l.label-index)
