-- An embedding followed by a standing apart is a standing apart, through which the same standings of the problem factor.
use Rattle.std.proofs.Common.{[], map, refl, sym, ap, ◌∙◌}
use Rattle.cp_lists.proofs.Mapped.{map_after}
use Rattle.cp_model.specs.Term.{value_of, apply_to, after}
use Rattle.cp_model.specs.Skeleton.{Skeleton}
use Rattle.cp_model.specs.Standing.{Standing, StandsApart}
use Rattle.cp_model.specs.Homomorphism.{SkeletonMap, IsEmbedding, FactorsThrough}
use Rattle.cp_model.specs.Composition.{through}
use Rattle.cp_model.proofs.LawTerms.{value_after}

pub apart_through : (a b : Skeleton) (f : SkeletonMap) (g : Standing) → IsEmbedding a b f → StandsApart b g → StandsApart a (through f g)
apart_through a b f g emb apart = λ s t role height terms role' height' terms' at au e.
    let gs = emb.homomorphism.instances s role height terms at in
    let gt = emb.homomorphism.instances t role' height' terms' au in
    emb.injective s t role height terms role' height' terms' at au
    (apart (f.strands s) (f.strands t) role gs.to_height gs.to_terms role' gt.to_height gt.to_terms gs.on_instance gt.on_instance e)

pub factors_after : (problem a b : Skeleton) (f : SkeletonMap) (h g : Standing) → IsEmbedding a b f → FactorsThrough problem h b g → FactorsThrough problem h a (through f g)
factors_after problem a b f h g emb factors = record {
  strands = factors.strands ∙ ap (map g.nodes) (sym emb.same_strands) ∙ map_after f.strands g.nodes (λ s. g.nodes (f.strands s)) (λ s. refl) a.from_problem.strands;
  values = factors.values ∙ ap (map (value_of g.values)) (sym emb.same_values)
      ∙ map_after (apply_to f.terms) (value_of g.values) (value_of (after g.values f.terms)) (value_after g.values f.terms) a.from_problem.values;
}
