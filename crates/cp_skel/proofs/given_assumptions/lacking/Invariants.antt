use Rattle.std.proofs.Common.{◌≡◌, drop}
use Rattle.cp_model.specs.GivenAssumptions.{with_given_from}
use Rattle.cp_skel.specs.JoinedAssumptions.{joined_assumptions}
use Rattle.cp_skel.proofs.given_assumptions.lacking.Given as goal

abbrev pub invariant-loop-number : goal.invariant-loop-number
invariant-loop-number l =
    with_given_from l.number (drop l.number l.strands) (joined_assumptions l.assumptions l.missing)
    ≡ with_given_from 0 l.strands l.assumptions
