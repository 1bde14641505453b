-- Narrowing by steps says the same as one substitution.
use Rattle.std.proofs.Common.{◌≡◌, List, [], ◌∷◌, map, refl, sym, ap, ◌∙◌, subst}
use Rattle.cp_model.specs.Term.{Term, Substitution, apply_to, apply_to_atom, composed, variable_term}
use Rattle.cp_model.specs.Bindings.{as_substitution}
use Rattle.cp_model.specs.Identity.{unchanged}
use Rattle.cp_lists.proofs.Mapped.{map_same, map_then}
use Rattle.cp_model.specs.Skeleton.{SkeletonStrand, instance, listener, UniqueAt, Assumptions, FromProblem, Skeleton}
use Rattle.cp_model.specs.Strand.{variables_of_prefix}
use Rattle.cp_model.proofs.DeclaredTerms.{by_bindings}
use Rattle.cp_model.proofs.LawTerms.{atom_composed, term_composed, atom_unchanged, term_unchanged}
use Rattle.cp_theory.specs.Normal.{terms_under, strand_under, unique_under, assumptions_under, from_problem_under, skeleton_under}
use Rattle.cp_collapse.specs.SameSkeletons.{IsSameStrand, same_instance, same_listener, AreSameStrands, no_strands, same_strands, SaysTheSame}
use Rattle.cp_normal.specs.NormalForms.{NarrowsTo, none, one}
use Rattle.cp_collapse.proofs.SameFacts.{says_then, says_under}

-- What the unchanged substitution does to a skeleton.
strand_unchanged : (s : SkeletonStrand) → IsSameStrand (strand_under unchanged s) s
strand_unchanged (instance role height terms) = same_instance (λ x i.
    by_bindings (composed (as_substitution terms) unchanged) (variables_of_prefix role height) x i
    ∙ term_composed (as_substitution terms) unchanged (variable_term x)
    ∙ term_unchanged (apply_to (as_substitution terms) (variable_term x)))
strand_unchanged (listener t) = subst (λ (u : Term). IsSameStrand (listener (apply_to unchanged t)) (listener u)) (term_unchanged t) same_listener

strands_unchanged : (ss : List SkeletonStrand) → AreSameStrands (map (strand_under unchanged) ss) ss
strands_unchanged [] = no_strands
strands_unchanged (s ∷ ss) = same_strands (strand_unchanged s) (strands_unchanged ss)

unique_unchanged : (u : UniqueAt) → unique_under unchanged u ≡ u
unique_unchanged u = λ i. record { value = atom_unchanged u.value i; origin = u.origin }

assumptions_unchanged : (a : Assumptions) → assumptions_under unchanged a ≡ a
assumptions_unchanged a = λ i. record {
  non_originating = map_same (apply_to_atom unchanged) atom_unchanged a.non_originating i;
  penetrator_non_originating = map_same (apply_to_atom unchanged) atom_unchanged a.penetrator_non_originating i;
  uniquely_originating = map_same (unique_under unchanged) unique_unchanged a.uniquely_originating i;
}

from_problem_unchanged : (f : FromProblem) → from_problem_under unchanged f ≡ f
from_problem_unchanged f = λ i. record {
  strands = f.strands;
  values = map_same (apply_to unchanged) term_unchanged f.values i;
  assumptions = assumptions_unchanged f.assumptions i;
  pairs = f.pairs;
}

pub says_unchanged : (k : Skeleton) → SaysTheSame (skeleton_under unchanged k) k
says_unchanged k = record { strands = strands_unchanged k.strands; pairs = refl; assumptions = assumptions_unchanged k.assumptions; from_problem = from_problem_unchanged k.from_problem }

-- One substitution after the other is the composed one.
module _ (s t : Substitution) where
  strand_composed : (d : SkeletonStrand) → IsSameStrand (strand_under (composed s t) d) (strand_under t (strand_under s d))
  strand_composed (instance role height terms) = same_instance (λ x i.
      let v = variable_term x in
      let own = as_substitution terms in
      let first = as_substitution (terms_under s role height terms) in
      by_bindings (composed own (composed s t)) (variables_of_prefix role height) x i
      ∙ term_composed own (composed s t) v
      ∙ term_composed s t (apply_to own v)
      ∙ ap (apply_to t) (sym (by_bindings (composed own s) (variables_of_prefix role height) x i ∙ term_composed own s v))
      ∙ sym (by_bindings (composed first t) (variables_of_prefix role height) x i ∙ term_composed first t v))
  strand_composed (listener u) = subst (λ (w : Term). IsSameStrand (listener (apply_to (composed s t) u)) (listener w)) (term_composed s t u) same_listener

  strands_composed : (ss : List SkeletonStrand) → AreSameStrands (map (strand_under (composed s t)) ss) (map (strand_under t) (map (strand_under s) ss))
  strands_composed [] = no_strands
  strands_composed (d ∷ ss) = same_strands (strand_composed d) (strands_composed ss)

  unique_composed : (u : UniqueAt) → unique_under (composed s t) u ≡ unique_under t (unique_under s u)
  unique_composed u = λ i. record { value = atom_composed s t u.value i; origin = u.origin }

  assumptions_composed : (a : Assumptions) → assumptions_under (composed s t) a ≡ assumptions_under t (assumptions_under s a)
  assumptions_composed a = λ i. record {
    non_originating = map_then (apply_to_atom s) (apply_to_atom t) (apply_to_atom (composed s t)) (atom_composed s t) a.non_originating i;
    penetrator_non_originating = map_then (apply_to_atom s) (apply_to_atom t) (apply_to_atom (composed s t)) (atom_composed s t) a.penetrator_non_originating i;
    uniquely_originating = map_then (unique_under s) (unique_under t) (unique_under (composed s t)) unique_composed a.uniquely_originating i;
  }

  from_problem_composed : (f : FromProblem) → from_problem_under (composed s t) f ≡ from_problem_under t (from_problem_under s f)
  from_problem_composed f = λ i. record {
    strands = f.strands;
    values = map_then (apply_to s) (apply_to t) (apply_to (composed s t)) (term_composed s t) f.values i;
    assumptions = assumptions_composed f.assumptions i;
    pairs = f.pairs;
  }

  pub says_composed : (k : Skeleton) → SaysTheSame (skeleton_under (composed s t) k) (skeleton_under t (skeleton_under s k))
  says_composed k = record { strands = strands_composed k.strands; pairs = refl; assumptions = assumptions_composed k.assumptions; from_problem = from_problem_composed k.from_problem }

-- Under s it says the same as m, and m under t as l: then under both it says the same as l.
pub says_both : (k m l : Skeleton) (s t : Substitution) → SaysTheSame (skeleton_under s k) m → SaysTheSame (skeleton_under t m) l → SaysTheSame (skeleton_under (composed s t) k) l
says_both k m l s t p q =
    says_then (skeleton_under (composed s t) k) (skeleton_under t (skeleton_under s k)) l (says_composed s t k)
    (says_then (skeleton_under t (skeleton_under s k)) (skeleton_under t m) l (says_under t (skeleton_under s k) m p) q)

pub narrows_under : {k l : Skeleton} → NarrowsTo k l → (s : Substitution) × SaysTheSame (skeleton_under s k) l
narrows_under {k} none = (unchanged, says_unchanged k)
narrows_under {k} {l} (one {l = m} step p) =
    let rest = narrows_under p in
    (composed step.unifier rest.0, says_both k m l step.unifier rest.0 step.same rest.1)
