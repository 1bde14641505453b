-- A strand behind those of a skeleton that stands.
use native.Mathlib.Decide.{ℕ_discrete}
use Rattle.std.proofs.Common.{◌≡◌, ℕ, ◌<◌, List, [], ◌∷◌, ◌++◌, length, Option, Some, refl, sym, ap, ap₂, ◌∙◌, subst, ◌⊎◌, inl, inr, arith}
use Rattle.cp_lists.specs.Lists.{item_at, IsIn}
use Rattle.cp_lists.proofs.Items.{item_below, item_still, item_last, item_of_push}
use Rattle.cp_model.specs.Message.{atom}
use Rattle.cp_model.specs.Term.{AtomTerm, Assignment, value_of_atom, AgreeOn}
use Rattle.cp_model.specs.Bindings.{Binding}
use Rattle.cp_model.specs.Strand.{Role}
use Rattle.cp_model.specs.Bundle.{KeepsNon, KeepsPenetratorNon, KeepsUnique, Bundle}
use Rattle.cp_model.specs.declared.node.Node.{Node}
use Rattle.cp_model.specs.Skeleton.{SkeletonStrand, instance, IsNodeOf, UniqueAt, Skeleton}
use Rattle.cp_model.specs.Standing.{Standing, image_on, image_of, StandsIn, StandsApart}
use Rattle.cp_model.proofs.LawStandings.{strand_of_event}
use Rattle.cp_theory.specs.Critical.{used_variables}
use Rattle.cp_theory.proofs.GrownStandings.{StrandStands, strand_stands, strand_by, inside_strands, HasGrown}

abbrev pick : {A B : Type 0} → Dec A → B → B → B
pick (yes a) x y = x
pick (no n) x y = y

picked : {A B : Type 0} (d : Dec A) (x y : B) → A → pick d x y ≡ x
picked (yes a) x y b = refl
picked (no n) x y b = absurd (n b)

not_picked : {A B : Type 0} (d : Dec A) (x y : B) → (A → ⊥) → pick d x y ≡ y
not_picked (yes a) x y n = absurd (n a)
not_picked (no m) x y n = refl

-- Strand a goes to a node, and the others as before.
abbrev pub with_node : ℕ → Node → (ℕ → Node) → ℕ → Node
with_node a node nodes s = pick (ℕ_discrete s a) node (nodes s)

module _ (k e : Skeleton) (b : Bundle) (h : Standing) (stands : StandsIn k b h) (apart : StandsApart k h) (new : SkeletonStrand) (strands : e.strands ≡ k.strands ++ new ∷ []) (node : Node) (values : Assignment)
    (agree : AgreeOn (used_variables k) h.values values) where
  abbrev pub standing : Standing
  standing = record { nodes = with_node (length k.strands) node h.nodes; values = values }

  pub new_node : standing.nodes (length k.strands) ≡ node
  new_node = picked (ℕ_discrete (length k.strands) (length k.strands)) node (h.nodes (length k.strands)) refl

  pub old_node : (a : ℕ) → a < length k.strands → h.nodes a ≡ standing.nodes a
  old_node a l = sym (not_picked (ℕ_discrete a (length k.strands)) node (h.nodes a) (λ same. let s : a ≡ length k.strands = same in omega (arith, s)))

  pub old_strand : (a : ℕ) (st : SkeletonStrand) → item_at k.strands a ≡ Some st → h.nodes a ≡ standing.nodes a
  old_strand a st at = old_node a (item_below k.strands a st at)

  pub new_there : item_at e.strands (length k.strands) ≡ Some new
  new_there = ap (λ (ss : List SkeletonStrand). item_at ss (length k.strands)) strands ∙ item_last k.strands new

  old_or_new : (a : ℕ) (st : SkeletonStrand) → item_at e.strands a ≡ Some st → (item_at k.strands a ≡ Some st) ⊎ ((a ≡ length k.strands) × (new ≡ st))
  old_or_new a st at = item_of_push k.strands new a st (ap (λ (ss : List SkeletonStrand). item_at ss a) (sym strands) ∙ at)

  strand_there : StrandStands b standing (length k.strands) new → (a : ℕ) (st : SkeletonStrand) → (item_at k.strands a ≡ Some st) ⊎ ((a ≡ length k.strands) × (new ≡ st)) → StrandStands b standing a st
  strand_there is a st (inl at) = strand_by k b h standing (inside_strands k h.values values agree) a st at (old_strand a st at) (strand_stands k b h stands a st at)
  strand_there is a st (inr both) = subst (λ (z : SkeletonStrand). StrandStands b standing a z) both.1 (subst (λ (i : ℕ). StrandStands b standing i new) (sym both.0) is)

  same_image : (y : Node) → IsNodeOf k.strands y → image_of e standing y ≡ image_of k h y
  same_image y there =
      let st = strand_of_event k.strands y there.0 there.1 in
      let in_both : item_at e.strands y.strand ≡ item_at k.strands y.strand = ap (λ (ss : List SkeletonStrand). item_at ss y.strand) strands ∙ item_still k.strands (new ∷ []) y.strand st.0 st.1 ∙ sym st.1 in
      ap₂ (λ (o : Option SkeletonStrand) (n : Node). image_on o n y.index) in_both (sym (old_strand y.strand st.0 st.1))

  -- A new role strand goes to a strand to which no other role strand goes.
  abbrev IsNewImage : Type 0
  IsNewImage = (role : Role) (height : ℕ) (terms : List Binding) → new ≡ instance role height terms → (a : ℕ) (role' : Role) (height' : ℕ) (terms' : List Binding) →
      item_at k.strands a ≡ Some (instance role' height' terms') → (h.nodes a).strand ≡ node.strand → ⊥

  apart_there : IsNewImage → (s t : ℕ) (role : Role) (height : ℕ) (terms : List Binding) (role' : Role) (height' : ℕ) (terms' : List Binding) →
      (item_at k.strands s ≡ Some (instance role height terms)) ⊎ ((s ≡ length k.strands) × (new ≡ instance role height terms)) →
      (item_at k.strands t ≡ Some (instance role' height' terms')) ⊎ ((t ≡ length k.strands) × (new ≡ instance role' height' terms')) →
      (standing.nodes s).strand ≡ (standing.nodes t).strand → s ≡ t
  apart_there only s t role height terms role' height' terms' (inl at) (inl au) same =
      apart s t role height terms role' height' terms' at au
      (ap (λ (n : Node). n.strand) (old_strand s (instance role height terms) at) ∙ same ∙ ap (λ (n : Node). n.strand) (sym (old_strand t (instance role' height' terms') au)))
  apart_there only s t role height terms role' height' terms' (inl at) (inr au) same =
      absurd (only role' height' terms' au.1 s role height terms at
      (ap (λ (n : Node). n.strand) (old_strand s (instance role height terms) at) ∙ same ∙ ap (λ (i : ℕ). (standing.nodes i).strand) au.0 ∙ ap (λ (n : Node). n.strand) new_node))
  apart_there only s t role height terms role' height' terms' (inr at) (inl au) same =
      absurd (only role height terms at.1 t role' height' terms' au
      (ap (λ (n : Node). n.strand) (old_strand t (instance role' height' terms') au) ∙ sym same ∙ ap (λ (i : ℕ). (standing.nodes i).strand) at.0 ∙ ap (λ (n : Node). n.strand) new_node))
  apart_there only s t role height terms role' height' terms' (inr at) (inr au) same = at.0 ∙ sym au.0

  pub pushed : StrandStands b standing (length k.strands) new → IsNewImage → e.pairs ≡ k.pairs → e.from_problem ≡ k.from_problem →
      ((v : AtomTerm) → IsIn v e.assumptions.non_originating → IsIn v k.assumptions.non_originating ⊎ KeepsNon b.strands (atom (value_of_atom values v))) →
      ((v : AtomTerm) → IsIn v e.assumptions.penetrator_non_originating → IsIn v k.assumptions.penetrator_non_originating ⊎ KeepsPenetratorNon b.strands (atom (value_of_atom values v))) →
      ((u : UniqueAt) → IsIn u e.assumptions.uniquely_originating → IsIn u k.assumptions.uniquely_originating ⊎ KeepsUnique b.strands (atom (value_of_atom values u.value)) (image_of e standing u.origin)) →
      HasGrown k e b h standing
  pushed is only pairs from_problem non penetrator_non unique = record {
    values = agree;
    nodes = old_strand;
    strands = λ a st at. strand_there is a st (old_or_new a st at);
    images = same_image;
    pairs = pairs;
    non = non;
    penetrator_non = penetrator_non;
    unique = unique;
    apart = λ s t role height terms role' height' terms' at au same.
        apart_there only s t role height terms role' height' terms' (old_or_new s (instance role height terms) at) (old_or_new t (instance role' height' terms') au) same;
    from_problem = from_problem;
  }
