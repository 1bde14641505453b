use Rattle.cp_search.proofs.LabelsSoFar.{IsAmongRest}
use Rattle.cp_search.proofs.resolved_tree.is_marked.Given as goal

abbrev pub invariant-loop-label : goal.invariant-loop-label
invariant-loop-label l = IsAmongRest l.mark l.labels l.label-index
