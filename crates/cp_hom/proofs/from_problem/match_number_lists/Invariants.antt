use Rattle.std.proofs.Common.{◌≡◌, map, drop}
use Rattle.cp_hom.specs.PartialMaps.{partial_view}
use Rattle.cp_hom.proofs.Extended.{IsSoFar}
use Rattle.cp_hom.proofs.from_problem.match_number_lists.Given as goal

abbrev pub invariant-loop-index : goal.invariant-loop-index
invariant-loop-index l =
    IsSoFar (λ f. map f.strands l.strands ≡ l.others) (λ f. map f.strands (drop l.index l.strands) ≡ drop l.index l.others) (partial_view l.fn.given) (partial_view l.found)
