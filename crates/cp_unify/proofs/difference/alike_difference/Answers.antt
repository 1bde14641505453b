use Rattle.cp_unify.proofs.VariablesUnder.{sorted_variable}
use Rattle.cp_unify.proofs.difference.alike_difference.Goals as goal

pub of-requires : goal.of-requires
of-requires c = sorted_variable _ _ _ c.in_ok-term.ensures.plain
