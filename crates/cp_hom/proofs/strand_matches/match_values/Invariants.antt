use Rattle.cp_model.specs.Strand.{variables_of_prefix}
use Rattle.cp_model.specs.Values.{substitution_by}
use Rattle.cp_hom.specs.PartialMaps.{partial_view}
use Rattle.cp_hom.specs.Counterparts.{MakesValues}
use Rattle.cp_hom.proofs.Extended.{IsSoFar}
use Rattle.cp_hom.proofs.strand_matches.match_values.Given as goal

abbrev pub invariant-loop-number : goal.invariant-loop-number
invariant-loop-number l =
    let xs = variables_of_prefix l.role l.height in
    IsSoFar (λ f. MakesValues 0 xs f.terms (substitution_by l.from) (substitution_by l.to)) (λ f. MakesValues l.number xs f.terms (substitution_by l.from) (substitution_by l.to))
    (partial_view l.fn.given) (partial_view l.found)
