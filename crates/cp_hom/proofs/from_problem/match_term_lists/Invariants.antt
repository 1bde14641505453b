use Rattle.std.proofs.Common.{◌≡◌, map, drop}
use Rattle.cp_model.specs.Term.{apply_to}
use Rattle.cp_hom.specs.PartialMaps.{partial_view}
use Rattle.cp_hom.proofs.Extended.{IsSoFar}
use Rattle.cp_hom.proofs.from_problem.match_term_lists.Given as goal

abbrev pub invariant-loop-index : goal.invariant-loop-index
invariant-loop-index l =
    IsSoFar (λ f. map (apply_to f.terms) l.terms ≡ l.others) (λ f. map (apply_to f.terms) (drop l.index l.terms) ≡ drop l.index l.others) (partial_view l.fn.given) (partial_view l.found)
