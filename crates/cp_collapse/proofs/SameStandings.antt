-- Skeletons that say the same stand alike, so that one of them loses no standing of the other.
use Rattle.std.proofs.Common.{◌≡◌, ℕ, [], ◌∷◌, Some, map, sym, ap, ◌∙◌, subst, subst₂, List}
use Rattle.cp_lists.specs.Lists.{item_at, IsIn, here}
use Rattle.cp_model.specs.Message.{atom}
use Rattle.cp_model.specs.Term.{value_of, value_of_atom, AgreeOnTerms, variable_term}
use Rattle.cp_model.specs.Bindings.{Binding, as_substitution}
use Rattle.cp_model.specs.Strand.{Role, Protocol, variables_of_prefix}
use Rattle.cp_model.specs.Bundle.{KeepsUnique, Bundle, Precedes}
use Rattle.cp_model.specs.declared.node.Node.{Node}
use Rattle.cp_model.specs.Skeleton.{instance, UniqueAt, Assumptions, FromProblem, Skeleton}
use Rattle.cp_model.specs.Standing.{Standing, image_of, StandsOnRegular, StandsIn, StandsApart}
use Rattle.cp_model.specs.Homomorphism.{FactorsThrough}
use Rattle.cp_theory.specs.Normal.{LosesNoStanding}
use Rattle.cp_theory.proofs.Under.{stands_on_equal, factors_then}
use Rattle.cp_collapse.specs.SameSkeletons.{SaysTheSame}
use Rattle.cp_collapse.proofs.SameStrands.{instance_at, listener_at, same_image_at}
use Rattle.cp_collapse.proofs.SameFacts.{says_back, same_before}
use Rattle.cp_model.proofs.LawTerms.{value_after}

-- An instance stands where one with agreeing terms does.
agreeing_stands : (b : Bundle) (h : Standing) (a : ℕ) (role : Role) (height : ℕ) (s t : List Binding) → AgreeOnTerms (variables_of_prefix role height) (as_substitution s) (as_substitution t) → StandsOnRegular b h a role height s → StandsOnRegular b h a role height t
agreeing_stands b h a role height s t agree st = stands_on_equal b h a role height s t st (λ x i.
    value_after h.values (as_substitution t) (variable_term x)
    ∙ ap (value_of h.values) (sym (agree x i))
    ∙ sym (value_after h.values (as_substitution s) (variable_term x)))

module _ (k l : Skeleton) (s : SaysTheSame k l) where
  pub same_image : (h : Standing) (n : Node) → image_of k h n ≡ image_of l h n
  same_image h n = same_image_at s.strands n.strand (h.nodes n.strand) n.index

  instance_stands : (b : Bundle) (h : Standing) → StandsIn k b h → (a : ℕ) (role : Role) (height : ℕ) (terms : List Binding) → item_at l.strands a ≡ Some (instance role height terms) → StandsOnRegular b h a role height terms
  instance_stands b h stands a role height terms at =
      let i = instance_at s.strands a role height terms at in
      agreeing_stands b h a role height i.0 terms i.2 (stands.instances a role height i.0 i.1)

  unique_stands : (b : Bundle) (h : Standing) → StandsIn k b h → (u : UniqueAt) → IsIn u l.assumptions.uniquely_originating → KeepsUnique b.strands (atom (value_of_atom h.values u.value)) (image_of l h u.origin)
  unique_stands b h stands u i =
      subst (KeepsUnique b.strands (atom (value_of_atom h.values u.value))) (same_image h u.origin) (stands.unique u (subst (λ (a : Assumptions). IsIn u a.uniquely_originating) (sym s.assumptions) i))

  pub same_stands : (b : Bundle) (h : Standing) → StandsIn k b h → StandsIn l b h
  same_stands b h stands = record {
    instances = instance_stands b h stands;
    listeners = λ a t at. stands.listeners a t (listener_at s.strands a t at);
    ordered = λ x y before ne. subst₂ (Precedes b) (same_image h x) (same_image h y) (stands.ordered x y (same_before l k (says_back k l s) before) ne);
    non = λ v i. stands.non v (subst (λ (a : Assumptions). IsIn v a.non_originating) (sym s.assumptions) i);
    penetrator_non = λ v i. stands.penetrator_non v (subst (λ (a : Assumptions). IsIn v a.penetrator_non_originating) (sym s.assumptions) i);
    unique = unique_stands b h stands;
  }

  pub same_apart : (h : Standing) → StandsApart k h → StandsApart l h
  same_apart h apart x y role height terms role' height' terms' at au e =
      let i = instance_at s.strands x role height terms at in
      let j = instance_at s.strands y role' height' terms' au in
      apart x y role height i.0 role' height' j.0 i.1 j.1 e

  pub same_factors : (h : Standing) → FactorsThrough k h l h
  same_factors h = record {
    strands = ap (λ (f : FromProblem). map h.nodes f.strands) s.from_problem;
    values = ap (λ (f : FromProblem). map (value_of h.values) f.values) s.from_problem;
  }

pub same_loses_none : (protocol : Protocol) (k l : Skeleton) → SaysTheSame k l → LosesNoStanding protocol k (l ∷ [])
same_loses_none protocol k l s b h is stands apart =
    record { skeleton = l; listed = here; stands = same_stands k l s b h stands; apart = same_apart k l s h apart; factors = same_factors k l s h }

-- A standing that factors through one of the two factors through the other.
pub same_factors_through : (problem k l : Skeleton) (f h : Standing) → SaysTheSame k l → FactorsThrough problem f k h → FactorsThrough problem f l h
same_factors_through problem k l f h s factors = factors_then problem k l f h h factors (same_factors k l s h)
