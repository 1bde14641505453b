-- Skeletons with a strand more that stand: an instance, and a listener.
use Rattle.std.proofs.Common.{◌≡◌, ℕ, ◌≤◌, [], ◌∷◌, ◌++◌, length, Option, Some, refl, ap, ap₂, ◌∙◌, subst, ◌⊎◌, inl, inr, ⊎_elim, List}
use Rattle.cp_lists.specs.Lists.{item_at, IsIn}
use Rattle.cp_model.specs.Message.{atom}
use Rattle.cp_model.specs.Term.{Term, Assignment, value_of, value_of_atom, after, AgreeOn}
use Rattle.cp_model.specs.Bindings.{Binding, as_substitution}
use Rattle.cp_model.specs.Strand.{Role, Protocol, variables_of_prefix, regular}
use Rattle.cp_model.specs.declared.strand.Event.TheVariants.{Receive as recv}
use Rattle.cp_model.specs.Bundle.{node_at, event_at, KeepsUnique, Bundle, IsBundle}
use Rattle.cp_model.specs.declared.node.Node.{Node}
use Rattle.cp_model.specs.Skeleton.{SkeletonStrand, instance, listener, UniqueAt, Skeleton}
use Rattle.cp_model.specs.Standing.{Standing, image_on, image_of, StandsOnRegular, StandsIn, StandsApart}
use Rattle.cp_model.specs.PrefixVariables.{prefix_variables}
use Rattle.cp_model.specs.Extensions.{AddsListener, IsClosedPrefix, AddsStrand}
use Rattle.cp_model.proofs.PrefixVariables.{in-prefix}
use Rattle.cp_theory.specs.Critical.{used_variables}
use Rattle.cp_theory.specs.Fresh.{fresh_terms, AreBelow}
use Rattle.cp_theory.proofs.NewValues.{beside, old_values, new_values}
use Rattle.cp_theory.proofs.GrownStandings.{HasGrown, HasGrownAt}
use Rattle.cp_theory.proofs.GivenIsKept.{old_or_given, given_non_kept, given_penetrator_non_kept, given_unique_kept}
use Rattle.cp_theory.proofs.Pushed.{standing, new_node, new_there, pushed}

-- A new instance, which goes to a regular strand of its role to which no other does.
module _ (protocol : Protocol) (k e : Skeleton) (b : Bundle) (h : Standing) (is : IsBundle protocol b) (stands : StandsIn k b h) (apart : StandsApart k h) (role : Role) (height count : ℕ)
    (adds : AddsStrand role height (fresh_terms count (prefix_variables role height)) k e) (closed : IsClosedPrefix role height) (below : AreBelow count (used_variables k))
    (strand to_height : ℕ) (to_values : Assignment) (on : item_at b.strands strand ≡ Some (regular role to_height to_values)) (at_least : height ≤ to_height)
    (only : (a : ℕ) (role' : Role) (height' : ℕ) (terms' : List Binding) → item_at k.strands a ≡ Some (instance role' height' terms') → (h.nodes a).strand ≡ strand → ⊥) where
  abbrev added_values : Assignment
  added_values = beside count (prefix_variables role height) h.values to_values

  added_agree : AgreeOn (used_variables k) h.values added_values
  added_agree = old_values count (prefix_variables role height) h.values to_values (used_variables k) below

  abbrev added_standing : Standing
  added_standing = standing k e b h stands apart (instance role height adds.terms) adds.strands (node_at strand 0) added_values added_agree

  abbrev place : ℕ
  place = length k.strands

  added_node : added_standing.nodes place ≡ node_at strand 0
  added_node = new_node k e b h stands apart (instance role height adds.terms) adds.strands (node_at strand 0) added_values added_agree

  added_there : item_at e.strands place ≡ Some (instance role height adds.terms)
  added_there = new_there k e b h stands apart (instance role height adds.terms) adds.strands (node_at strand 0) added_values added_agree

  equal : AgreeOn (variables_of_prefix role height) (after added_values (as_substitution adds.terms)) to_values
  equal x i = new_values (as_substitution adds.terms) count (prefix_variables role height) h.values to_values adds.gives x ((in-prefix role x height).1 (closed x i, i))

  here_stands : StandsOnRegular b added_standing place role height adds.terms
  here_stands = record {
    at_start = ap (λ (n : Node). n.index) added_node;
    to_height = to_height;
    to_values = to_values;
    on_regular = ap (λ (n : Node). item_at b.strands n.strand) added_node ∙ on;
    at_least = at_least;
    equal_values = equal;
  }

  unique_there : (u : UniqueAt) → IsIn u e.assumptions.uniquely_originating → IsIn u k.assumptions.uniquely_originating ⊎ KeepsUnique b.strands (atom (value_of_atom added_values u.value)) (image_of e added_standing u.origin)
  unique_there u i = ⊎_elim inl (λ given. inr (given_unique_kept protocol b is role strand to_height to_values on height at_least adds.terms added_values equal place u (image_of e added_standing u.origin) given
      (ap (λ (z : UniqueAt). image_of e added_standing z.origin) given.same ∙ ap₂ (λ (o : Option SkeletonStrand) (n : Node). image_on o n given.index) added_there added_node))) (old_or_given adds.assumptions.unique u i)

  has_added : HasGrown k e b h added_standing
  has_added = pushed k e b h stands apart (instance role height adds.terms) adds.strands (node_at strand 0) added_values added_agree here_stands
      (λ r m ts same. only) adds.pairs adds.from_problem
      (λ v i. ⊎_elim inl (λ given. inr (given_non_kept protocol b is role strand to_height to_values on height at_least adds.terms added_values equal v given)) (old_or_given adds.assumptions.non v i))
      (λ v i. ⊎_elim inl (λ given. inr (given_penetrator_non_kept protocol b is role strand to_height to_values on height at_least adds.terms added_values equal v given)) (old_or_given adds.assumptions.penetrator_non v i))
      unique_there

  pub added_at : HasGrownAt k e b h place role height strand to_values
  added_at = record { standing = added_standing; grown = has_added; terms = adds.terms; there = added_there; equal = equal; to = ap (λ (m : Node). m.strand) added_node }

-- A new listener, which goes to a reception of its message.
module _ (k e : Skeleton) (b : Bundle) (h : Standing) (stands : StandsIn k b h) (apart : StandsApart k h) (t : Term) (adds : AddsListener t k e) (node : Node) (heard : event_at b.strands node ≡ Some (recv (value_of h.values t))) where
  pub strands_are : e.strands ≡ k.strands ++ listener t ∷ []
  strands_are = ap (λ (z : Skeleton). z.strands) adds

  abbrev pub listening : Standing
  listening = standing k e b h stands apart (listener t) strands_are node h.values (λ x i. refl)

  pub listener_node : listening.nodes (length k.strands) ≡ node
  listener_node = new_node k e b h stands apart (listener t) strands_are node h.values (λ x i. refl)

  pub listener_there : item_at e.strands (length k.strands) ≡ Some (listener t)
  listener_there = new_there k e b h stands apart (listener t) strands_are node h.values (λ x i. refl)

  pub has_listener : HasGrown k e b h listening
  has_listener = pushed k e b h stands apart (listener t) strands_are node h.values (λ x i. refl) (ap (event_at b.strands) listener_node ∙ heard)
      (λ r m ts same. absurd (cc)) (ap (λ (z : Skeleton). z.pairs) adds) (ap (λ (z : Skeleton). z.from_problem) adds)
      (λ v i. inl (subst (IsIn v) (ap (λ (z : Skeleton). z.assumptions.non_originating) adds) i))
      (λ v i. inl (subst (IsIn v) (ap (λ (z : Skeleton). z.assumptions.penetrator_non_originating) adds) i))
      (λ u i. inl (subst (IsIn u) (ap (λ (z : Skeleton). z.assumptions.uniquely_originating) adds) i))
