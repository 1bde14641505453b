-- A skeleton embeds in itself, and embeddings compose.
use Rattle.std.proofs.Common.{◌≡◌, ℕ, List, Some, map, refl, sym, ap, ◌∙◌, subst, le_trans, le_refl}
use Rattle.cp_lists.specs.Lists.{item_at, IsIn}
use Rattle.cp_lists.proofs.Mapped.{map_same, map_then}
use Rattle.cp_model.specs.Term.{AtomTerm, variable_term, Term, apply_to, apply_to_atom, composed}
use Rattle.cp_model.specs.Bindings.{Binding, as_substitution}
use Rattle.cp_model.specs.Identity.{unchanged}
use Rattle.cp_model.specs.Strand.{Role}
use Rattle.cp_model.specs.Skeleton.{instance, listener, Skeleton}
use Rattle.cp_model.specs.Homomorphism.{SkeletonMap, mapped, GoesToInstance, IsHomomorphism, IsEmbedding, Embeds}
use Rattle.cp_model.proofs.LawTerms.{composed_further, atom_composed, term_composed, atom_unchanged, term_unchanged}
use Rattle.cp_model.proofs.LawPrefixes.{variables_of_higher}

-- The map that changes nothing.
abbrev pub same_map : SkeletonMap
same_map = record { strands = λ s. s; terms = unchanged }

pub same_homomorphism : (k : Skeleton) → IsHomomorphism k k same_map
same_homomorphism k = record {
  instances = λ s role height terms at. record {
    to_height = height;
    to_terms = terms;
    on_instance = at;
    at_least = le_refl height;
    equal_terms = λ x inx. term_composed (as_substitution terms) unchanged (variable_term x) ∙ term_unchanged (apply_to (as_substitution terms) (variable_term x));
  };
  listeners = λ s t at. at ∙ ap (λ (u : Term). Some (listener u)) (sym (term_unchanged t));
  ordered = λ x y before. before;
  non = λ v inv. subst (λ (w : AtomTerm). IsIn w k.assumptions.non_originating) (sym (atom_unchanged v)) inv;
  penetrator_non = λ v inv. subst (λ (w : AtomTerm). IsIn w k.assumptions.penetrator_non_originating) (sym (atom_unchanged v)) inv;
  unique = λ u inu. subst (λ (w : AtomTerm). IsIn (record { value = w; origin = u.origin }) k.assumptions.uniquely_originating) (sym (atom_unchanged u.value)) inu;
}

pub embeds_same : (k : Skeleton) → Embeds k k
embeds_same k = (
  same_map,
  record {
    homomorphism = same_homomorphism k;
    injective = λ s t role height terms role' height' terms' at au e. e;
    same_strands = map_same (λ s. s) (λ s. refl) k.from_problem.strands;
    same_values = map_same (apply_to unchanged) term_unchanged k.from_problem.values;
  },
)

-- First f, and then g.
abbrev pub then_map : SkeletonMap → SkeletonMap → SkeletonMap
then_map f g = record { strands = λ s. g.strands (f.strands s); terms = composed f.terms g.terms }

then_instance : (a b c : Skeleton) (f g : SkeletonMap) → IsHomomorphism a b f → IsHomomorphism b c g →
    (s : ℕ) (role : Role) (height : ℕ) (terms : List Binding) → item_at a.strands s ≡ Some (instance role height terms) → GoesToInstance c (then_map f g) s role height terms
then_instance a b c f g hf hg s role height terms at = record {
  to_height = second.to_height;
  to_terms = second.to_terms;
  on_instance = second.on_instance;
  at_least = le_trans first.at_least second.at_least;
  equal_terms = λ x inx. composed_further f.terms (as_substitution terms) (as_substitution first.to_terms) g.terms (variable_term x) (first.equal_terms x inx) ∙ second.equal_terms x (variables_of_higher role height first.to_height first.at_least x inx);
}
  where
    first : GoesToInstance b f s role height terms
    first = hf.instances s role height terms at

    second : GoesToInstance c g (f.strands s) role first.to_height first.to_terms
    second = hg.instances (f.strands s) role first.to_height first.to_terms first.on_instance

pub then_homomorphism : (a b c : Skeleton) (f g : SkeletonMap) → IsHomomorphism a b f → IsHomomorphism b c g → IsHomomorphism a c (then_map f g)
then_homomorphism a b c f g hf hg = record {
  instances = then_instance a b c f g hf hg;
  listeners = λ s t at. hg.listeners (f.strands s) (apply_to f.terms t) (hf.listeners s t at) ∙ ap (λ (u : Term). Some (listener u)) (sym (term_composed f.terms g.terms t));
  ordered = λ x y before. hg.ordered (mapped f x) (mapped f y) (hf.ordered x y before);
  non = λ v inv. subst (λ (w : AtomTerm). IsIn w c.assumptions.non_originating) (sym (atom_composed f.terms g.terms v)) (hg.non (apply_to_atom f.terms v) (hf.non v inv));
  penetrator_non = λ v inv. subst (λ (w : AtomTerm). IsIn w c.assumptions.penetrator_non_originating) (sym (atom_composed f.terms g.terms v)) (hg.penetrator_non (apply_to_atom f.terms v) (hf.penetrator_non v inv));
  unique = λ u inu. subst (λ (w : AtomTerm). IsIn (record { value = w; origin = mapped (then_map f g) u.origin }) c.assumptions.uniquely_originating) (sym (atom_composed f.terms g.terms u.value))
      (hg.unique (record { value = apply_to_atom f.terms u.value; origin = mapped f u.origin }) (hf.unique u inu));
}

then_embedding : (a b c : Skeleton) (f g : SkeletonMap) → IsEmbedding a b f → IsEmbedding b c g → IsEmbedding a c (then_map f g)
then_embedding a b c f g ef eg = record {
  homomorphism = then_homomorphism a b c f g ef.homomorphism eg.homomorphism;
  injective = λ s t role height terms role' height' terms' at au e.
      let gs = ef.homomorphism.instances s role height terms at in
      let gt = ef.homomorphism.instances t role' height' terms' au in
      ef.injective s t role height terms role' height' terms' at au
      (eg.injective (f.strands s) (f.strands t) role gs.to_height gs.to_terms role' gt.to_height gt.to_terms gs.on_instance gt.on_instance e);
  same_strands = map_then f.strands g.strands (λ s. g.strands (f.strands s)) (λ s. refl) a.from_problem.strands ∙ ap (map g.strands) ef.same_strands ∙ eg.same_strands;
  same_values = map_then (apply_to f.terms) (apply_to g.terms) (apply_to (composed f.terms g.terms)) (term_composed f.terms g.terms) a.from_problem.values
      ∙ ap (map (apply_to g.terms)) ef.same_values ∙ eg.same_values;
}

pub embeds_then : (a b c : Skeleton) → Embeds a b → Embeds b c → Embeds a c
embeds_then a b c ab bc = (then_map ab.0 bc.0, then_embedding a b c ab.0 bc.0 ab.1 bc.1)
