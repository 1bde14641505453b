use Rattle.cp_model.specs.Strand.{variables_of_trace}
use Rattle.cp_pattern.specs.Within.{MayGuard}
use Rattle.cp_pattern.proofs.Each.{EachIfRest}
use Rattle.cp_pattern.proofs.pattern.all_may_guard.Given as goal

abbrev pub invariant-loop-pattern : goal.invariant-loop-pattern
invariant-loop-pattern l = EachIfRest (MayGuard (variables_of_trace l.events)) l.patterns l.pattern-index
