use Rattle.cp_app.proofs.Trees.{HaveFewBefore}
use Rattle.cp_app.proofs.analysis.have_few_variables.Given as goal

abbrev pub invariant-loop-label : goal.invariant-loop-label
invariant-loop-label l = HaveFewBefore l.labels l.label-index
