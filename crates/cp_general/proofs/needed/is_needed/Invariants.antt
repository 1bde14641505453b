use Rattle.cp_general.proofs.needed.is_needed.Given as goal

abbrev pub invariant-loop-located : goal.invariant-loop-located
invariant-loop-located l = Unit {0}
