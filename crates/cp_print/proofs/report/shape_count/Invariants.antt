use Rattle.std.proofs.Common.{◌≡◌, ◌≤◌, ◌+◌, drop}
use Rattle.cp_language.specs.Report.{shape_count}
use Rattle.cp_print.proofs.report.shape_count.Given as goal

abbrev pub invariant-loop-label : goal.invariant-loop-label
invariant-loop-label l = (l.count + shape_count (drop l.label-index l.labels) ≡ shape_count l.labels) × (l.count ≤ l.label-index)
