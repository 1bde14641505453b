-- A strand of a skeleton that stands, made higher.
use native.Mathlib.Decide.{ℕ_discrete}
use Rattle.std.proofs.Common.{◌≡◌, ◌≢◌, ℕ, ◌≤◌, Option, Some, Bool, true, false, refl, sym, ap, ◌∙◌, subst, ◌⊎◌, inl, inr, ⊎_elim, List}
use Rattle.cp_lists.specs.Lists.{item_at, IsIn}
use Rattle.cp_model.specs.Message.{atom}
use Rattle.cp_model.specs.Term.{variable_term, Assignment, value_of, value_of_atom, after, AgreeOn, AgreeOnTerms}
use Rattle.cp_model.specs.Bindings.{Binding, as_substitution}
use Rattle.cp_model.specs.declared.variable.Variable.{Variable}
use Rattle.cp_model.specs.Strand.{Role, Protocol, variables_of_prefix}
use Rattle.cp_model.specs.Bundle.{KeepsUnique, Bundle, IsBundle}
use Rattle.cp_model.specs.declared.node.Node.{Node}
use Rattle.cp_model.specs.Skeleton.{SkeletonStrand, instance, UniqueAt, Skeleton}
use Rattle.cp_model.specs.Standing.{Standing, image_on, image_of, StandsOnRegular, StandsIn, StandsApart}
use Rattle.cp_model.specs.Same.{has_variable}
use Rattle.cp_model.proofs.LawTerms.{value_after}
use Rattle.cp_model.proofs.SameTests.{variable_in, in_has_variable}
use Rattle.cp_model.proofs.CarriedParts.{not_both}
use Rattle.cp_model.specs.PrefixVariables.{added_variables, terms_of}
use Rattle.cp_model.specs.GivenAssumptions.{AddsGiven}
use Rattle.cp_model.specs.Extensions.{IsClosedPrefix}
use Rattle.cp_model.proofs.PrefixVariables.{in-added}
use Rattle.cp_theory.specs.Critical.{used_variables}
use Rattle.cp_theory.specs.Fresh.{fresh_terms, AreBelow}
use Rattle.cp_theory.proofs.NewValues.{beside, old_values, new_values}
use Rattle.cp_theory.proofs.GrownStandings.{StrandStands, strand_stands, equal_by, strand_by, inside_strands, HasGrown, HasGrownAt}
use Rattle.cp_theory.proofs.GivenIsKept.{old_or_given, given_non_kept, given_penetrator_non_kept, given_unique_kept}

module _ (protocol : Protocol) (k e : Skeleton) (b : Bundle) (h : Standing) (is : IsBundle protocol b) (stands : StandsIn k b h) (apart : StandsApart k h)
    (a : ℕ) (role : Role) (before height : ℕ) (old new : List Binding) (was : item_at k.strands a ≡ Some (instance role before old)) (on : item_at e.strands a ≡ Some (instance role height new))
    (keeps : AgreeOnTerms (variables_of_prefix role before) (as_substitution old) (as_substitution new)) (count : ℕ) (gives : terms_of (as_substitution new) (added_variables role before height) ≡ fresh_terms count (added_variables role before height))
    (closed : IsClosedPrefix role height) (below : AreBelow count (used_variables k)) (others : (t : ℕ) → t ≢ a → item_at e.strands t ≡ item_at k.strands t)
    (st : StandsOnRegular b h a role before old) (at_least : height ≤ st.to_height) where
  abbrev raised_values : Assignment
  raised_values = beside count (added_variables role before height) h.values st.to_values

  abbrev raised : Standing
  raised = record { nodes = h.nodes; values = raised_values }

  agree : AgreeOn (used_variables k) h.values raised_values
  agree = old_values count (added_variables role before height) h.values st.to_values (used_variables k) below

  old_equal : (x : Variable) → IsIn x (variables_of_prefix role before) → value_of (after raised_values (as_substitution new)) (variable_term x) ≡ value_of st.to_values (variable_term x)
  old_equal x i =
      value_after raised_values (as_substitution new) (variable_term x)
      ∙ ap (value_of raised_values) (sym (keeps x i))
      ∙ sym (value_after raised_values (as_substitution old) (variable_term x))
      ∙ equal_by k b h raised (inside_strands k h.values raised_values agree) a role before old st.to_values was st.equal_values x i

  new_equal : (x : Variable) → IsIn x (variables_of_prefix role height) → (IsIn x (variables_of_prefix role before) → ⊥) → value_of (after raised_values (as_substitution new)) (variable_term x) ≡ value_of st.to_values (variable_term x)
  new_equal x i n = new_values (as_substitution new) count (added_variables role before height) h.values st.to_values gives x ((in-added role x before height).1 (closed x i, i, n))

  equal_by_test : (x : Variable) → IsIn x (variables_of_prefix role height) → (t : Bool) → has_variable (variables_of_prefix role before) x ≡ t → value_of (after raised_values (as_substitution new)) (variable_term x) ≡ value_of st.to_values (variable_term x)
  equal_by_test x i true e = old_equal x (variable_in (variables_of_prefix role before) x e)
  equal_by_test x i false e = new_equal x i (λ j. not_both e (in_has_variable (variables_of_prefix role before) x j))

  equal : AgreeOn (variables_of_prefix role height) (after raised_values (as_substitution new)) st.to_values
  equal x i = equal_by_test x i (has_variable (variables_of_prefix role before) x) refl

  here_stands : StandsOnRegular b raised a role height new
  here_stands = record { at_start = st.at_start; to_height = st.to_height; to_values = st.to_values; on_regular = st.on_regular; at_least = at_least; equal_values = equal }

  strand_there : (t : ℕ) (s : SkeletonStrand) → Dec (t ≡ a) → item_at e.strands t ≡ Some s → StrandStands b raised t s
  strand_there t s (yes same) at =
      let both : Some (instance role height new) ≡ Some s = sym on ∙ ap (item_at e.strands) (sym same) ∙ at in
      let strand : instance role height new ≡ s = cc in
      subst (λ (z : SkeletonStrand). StrandStands b raised t z) strand (subst (λ (i : ℕ). StandsOnRegular b raised i role height new) (sym same) here_stands)
  strand_there t s (no ne) at =
      let there : item_at k.strands t ≡ Some s = sym (others t ne) ∙ at in
      strand_by k b h raised (inside_strands k h.values raised_values agree) t s there refl (strand_stands k b h stands t s there)

  same_image : (y : Node) → Dec (y.strand ≡ a) → image_of e raised y ≡ image_of k h y
  same_image y (yes same) =
      let now : item_at e.strands y.strand ≡ Some (instance role height new) = ap (item_at e.strands) same ∙ on in
      let then : item_at k.strands y.strand ≡ Some (instance role before old) = ap (item_at k.strands) same ∙ was in
      ap (λ (o : Option SkeletonStrand). image_on o (h.nodes y.strand) y.index) now ∙ sym (ap (λ (o : Option SkeletonStrand). image_on o (h.nodes y.strand) y.index) then)
  same_image y (no ne) = ap (λ (o : Option SkeletonStrand). image_on o (h.nodes y.strand) y.index) (others y.strand ne)

  -- An instance was one before.
  was_instance : (t : ℕ) (r : Role) (m : ℕ) (ts : List Binding) → item_at e.strands t ≡ Some (instance r m ts) → Dec (t ≡ a) → (r' : Role) × (m' : ℕ) × (ts' : List Binding) × (item_at k.strands t ≡ Some (instance r' m' ts'))
  was_instance t r m ts at (yes same) = (role, before, old, ap (item_at k.strands) same ∙ was)
  was_instance t r m ts at (no ne) = (r, m, ts, sym (others t ne) ∙ at)

  raised_apart : StandsApart e raised
  raised_apart s t r m ts r' m' ts' at au same =
      let p = was_instance s r m ts at (ℕ_discrete s a) in
      let q = was_instance t r' m' ts' au (ℕ_discrete t a) in
      apart s t p.0 p.1 p.2 q.0 q.1 q.2 p.3 q.3 same

  unique_there : AddsGiven role height new a k.assumptions e.assumptions → (u : UniqueAt) → IsIn u e.assumptions.uniquely_originating →
      IsIn u k.assumptions.uniquely_originating ⊎ KeepsUnique b.strands (atom (value_of_atom raised_values u.value)) (image_of e raised u.origin)
  unique_there adds u i = ⊎_elim inl (λ given. inr (given_unique_kept protocol b is role (h.nodes a).strand st.to_height st.to_values st.on_regular height at_least new raised_values equal a u (image_of e raised u.origin) given
      (ap (λ (z : UniqueAt). image_of e raised z.origin) given.same ∙ ap (λ (o : Option SkeletonStrand). image_on o (h.nodes a) given.index) on))) (old_or_given adds.unique u i)

  has_raised : e.pairs ≡ k.pairs → e.from_problem ≡ k.from_problem → AddsGiven role height new a k.assumptions e.assumptions → HasGrown k e b h raised
  has_raised pairs from_problem adds = record {
    values = agree;
    nodes = λ t s at. refl;
    strands = λ t s at. strand_there t s (ℕ_discrete t a) at;
    images = λ y there. same_image y (ℕ_discrete y.strand a);
    pairs = pairs;
    non = λ v i. ⊎_elim inl (λ given. inr (given_non_kept protocol b is role (h.nodes a).strand st.to_height st.to_values st.on_regular height at_least new raised_values equal v given)) (old_or_given adds.non v i);
    penetrator_non = λ v i. ⊎_elim inl (λ given. inr (given_penetrator_non_kept protocol b is role (h.nodes a).strand st.to_height st.to_values st.on_regular height at_least new raised_values equal v given)) (old_or_given adds.penetrator_non v i);
    unique = unique_there adds;
    apart = raised_apart;
    from_problem = from_problem;
  }

  pub raised_at : e.pairs ≡ k.pairs → e.from_problem ≡ k.from_problem → AddsGiven role height new a k.assumptions e.assumptions → HasGrownAt k e b h a role height (h.nodes a).strand st.to_values
  raised_at pairs from_problem adds = record { standing = raised; grown = has_raised pairs from_problem adds; terms = new; there = on; equal = equal; to = refl }
