-- A skeleton without one of its strands is one over the protocol, and embeds in the skeleton with it.
use Rattle.std.proofs.Common.{◌≡◌, ◌≢◌, ℕ, List, Some, map, refl, sym, ap, ◌∙◌, subst, le_refl}
use Rattle.cp_lists.specs.Lists.{item_at, IsIn}
use Rattle.cp_lists.proofs.Members.{in_append_left}
use Rattle.cp_lists.proofs.Mapped.{map_same, map_then, map_alike}
use Rattle.cp_model.specs.Term.{AtomTerm, Term, apply_to, variable_term}
use Rattle.cp_model.specs.Bindings.{as_substitution}
use Rattle.cp_model.specs.declared.variable.Variable.{Variable}
use Rattle.cp_model.specs.Identity.{unchanged}
use Rattle.cp_model.specs.Strand.{Protocol}
use Rattle.cp_model.specs.declared.variable.Declaration.{Declaration}
use Rattle.cp_model.specs.Bundle.{node_at}
use Rattle.cp_model.specs.declared.node.Node.{Node}
use Rattle.cp_model.specs.Skeleton.{SkeletonStrand, instance, listener, UniqueAt, Skeleton, Before, IsSkeleton}
use Rattle.cp_model.specs.Homomorphism.{SkeletonMap, IsHomomorphism, Embeds}
use Rattle.cp_model.specs.Problem.{variables_of_strands, variables_of_atoms, variables_of_uniques, variables_of_assumptions, IsDeclared}
use Rattle.cp_model.specs.PointOfView.{HasDeclaredVariables}
use Rattle.cp_model.proofs.LawTerms.{atom_unchanged, term_unchanged, term_composed}
use Rattle.cp_skel.specs.Ordered.{IsOrdered}
use Rattle.cp_skel.specs.Deletion.{renumbered, node_renumbered, unique_renumbered, as_it_is, IsOriginOn, IsForgottenNon, IsForgottenPenetratorNon}
use Rattle.cp_skel.proofs.NumbersWithout.{restored, restored_renumbered, renumbered_restored, restored_other, item_without, node_restored, node_again}
use Rattle.cp_skel.proofs.PairsWithout.{was_left}
use Rattle.cp_skel.proofs.SkeletonWithout.{skeleton_kept}
use Rattle.cp_model.proofs.OccurringVariables.{strand_with, in_strands, atom_with, unique_with}
use Rattle.cp_collapse.proofs.VariablesOfCollapses.{of_each_part, non_declared, penetrator_non_declared, unique_declared}
use Rattle.cp_general.specs.Steps.{Deletes}

module _ (d : ℕ) (k h : Skeleton) (del : Deletes d k h) where
  -- ---- strands and nodes

  pub strand_was : (s : ℕ) (st : SkeletonStrand) → item_at h.strands s ≡ Some st → item_at k.strands (restored d s) ≡ Some st
  strand_was s st at = sym (item_without k.strands d s) ∙ sym (ap (λ ss. item_at ss s) del.strands) ∙ at

  pub strand_stays : (s : ℕ) (st : SkeletonStrand) → s ≢ d → item_at k.strands s ≡ Some st → item_at h.strands (renumbered d s) ≡ Some st
  strand_stays s st other at =
      ap (λ ss. item_at ss (renumbered d s)) del.strands ∙ item_without k.strands d (renumbered d s) ∙ ap (item_at k.strands) (restored_renumbered d s other) ∙ at

  node_back : (n : Node) → node_renumbered d (node_restored d n) ≡ n
  node_back n i = node_at (renumbered_restored d n.strand i) n.index

  before_was : (x y : Node) → Before h x y → Before k (node_restored d x) (node_restored d y)
  before_was x y b =
      (del.order (node_restored d x) (node_restored d y) (restored_other d x.strand) (restored_other d y.strand)).0
      (subst (λ z. Before h z (node_renumbered d (node_restored d y))) (sym (node_back x)) (subst (Before h x) (sym (node_back y)) b))

  deleted_ordered : ((n : Node) → Before k n n → ⊥) → IsOrdered h
  deleted_ordered no_cycle = record { order_pairs = del.pairs; no_cycle = λ n b. no_cycle (node_restored d n) (before_was n n b) }

  -- It is a skeleton over the protocol.
  pub deleted_is_skeleton : (protocol : Protocol) → IsSkeleton protocol k → IsSkeleton protocol h
  deleted_is_skeleton protocol sk = skeleton_kept protocol d k h sk del.strands del.assumptions (deleted_ordered sk.no_cycle)

  -- ---- its assumptions were there

  non_was : (v : AtomTerm) → IsIn v h.assumptions.non_originating → IsIn v k.assumptions.non_originating
  non_was v i =
      let w = was_left (IsForgottenNon k d) as_it_is k.assumptions.non_originating h.assumptions.non_originating v del.assumptions.non i in
      subst (λ x. IsIn x k.assumptions.non_originating) (sym w.same) w.listed

  penetrator_non_was : (v : AtomTerm) → IsIn v h.assumptions.penetrator_non_originating → IsIn v k.assumptions.penetrator_non_originating
  penetrator_non_was v i =
      let w = was_left (IsForgottenPenetratorNon k d) as_it_is k.assumptions.penetrator_non_originating h.assumptions.penetrator_non_originating v del.assumptions.penetrator_non i in
      subst (λ x. IsIn x k.assumptions.penetrator_non_originating) (sym w.same) w.listed

  -- A unique value with its recorded origin where it was.
  abbrev unique_restored : UniqueAt → UniqueAt
  unique_restored u = record { value = u.value; origin = node_restored d u.origin }

  restored_again : (u : UniqueAt) → u.origin.strand ≢ d → unique_restored (unique_renumbered d u) ≡ u
  restored_again u other i = record { value = u.value; origin = node_again d u.origin other i }

  unique_was : (u : UniqueAt) → IsIn u h.assumptions.uniquely_originating → IsIn (unique_restored u) k.assumptions.uniquely_originating
  unique_was u i =
      let w = was_left (IsOriginOn d) (unique_renumbered d) k.assumptions.uniquely_originating h.assumptions.uniquely_originating u del.assumptions.unique i in
      subst (λ x. IsIn x k.assumptions.uniquely_originating) (sym (ap unique_restored w.same ∙ restored_again w.item w.not_gone)) w.listed

  -- ---- it embeds

  abbrev restoring : SkeletonMap
  restoring = record { strands = restored d; terms = unchanged }

  restoring_is_homomorphism : IsHomomorphism h k restoring
  restoring_is_homomorphism = record {
    instances = λ s role height terms at. record {
      to_height = height;
      to_terms = terms;
      on_instance = strand_was s (instance role height terms) at;
      at_least = le_refl height;
      equal_terms = λ x i. term_composed (as_substitution terms) unchanged (variable_term x) ∙ term_unchanged (apply_to (as_substitution terms) (variable_term x));
    };
    listeners = λ s t at. strand_was s (listener t) at ∙ ap (λ (u : Term). Some (listener u)) (sym (term_unchanged t));
    ordered = before_was;
    non = λ v i. subst (λ (w : AtomTerm). IsIn w k.assumptions.non_originating) (sym (atom_unchanged v)) (non_was v i);
    penetrator_non = λ v i. subst (λ (w : AtomTerm). IsIn w k.assumptions.penetrator_non_originating) (sym (atom_unchanged v)) (penetrator_non_was v i);
    unique = λ u i. subst (λ (w : AtomTerm). IsIn (record { value = w; origin = node_restored d u.origin }) k.assumptions.uniquely_originating) (sym (atom_unchanged u.value)) (unique_was u i);
  }

  not_deleted : (s : ℕ) → IsIn s k.from_problem.strands → s ≢ d
  not_deleted s i e = del.no_image (subst (λ (n : ℕ). IsIn n k.from_problem.strands) e i)

  same_images : map (restored d) h.from_problem.strands ≡ k.from_problem.strands
  same_images =
      let both : ℕ → ℕ = λ s. restored d (renumbered d s) in
      ap (map (restored d)) del.from_problem.strands ∙ sym (map_then (renumbered d) (restored d) both (λ s. refl) k.from_problem.strands)
      ∙ map_alike both (λ s. s) k.from_problem.strands (λ s i. restored_renumbered d s (not_deleted s i)) ∙ map_same (λ s. s) (λ s. refl) k.from_problem.strands

  pub deleted_embeds : Embeds h k
  deleted_embeds = (
    restoring,
    record {
      homomorphism = restoring_is_homomorphism;
      injective = λ s t role height terms role' height' terms' at au e. sym (renumbered_restored d s) ∙ ap (renumbered d) e ∙ renumbered_restored d t;
      same_strands = same_images;
      same_values = map_same (apply_to unchanged) term_unchanged h.from_problem.values ∙ del.from_problem.values;
    },
  )

  -- ---- its variables

  module _ (variables : List Declaration) (declared : HasDeclaredVariables variables k) where
    of_strands : (x : Variable) → IsIn x (variables_of_strands h.strands) → IsDeclared variables x
    of_strands x i =
        let r = strand_with h.strands x i in
        declared.occurring x (in_append_left (variables_of_assumptions k.assumptions) (in_strands k.strands (restored d r.0) r.1 x (strand_was r.0 r.1 r.2) r.3))

    of_non : (x : Variable) → IsIn x (variables_of_atoms h.assumptions.non_originating) → IsDeclared variables x
    of_non x i = let m = atom_with h.assumptions.non_originating x i in non_declared variables k declared m.0 (non_was m.0 m.1) x m.2

    of_penetrator_non : (x : Variable) → IsIn x (variables_of_atoms h.assumptions.penetrator_non_originating) → IsDeclared variables x
    of_penetrator_non x i = let m = atom_with h.assumptions.penetrator_non_originating x i in penetrator_non_declared variables k declared m.0 (penetrator_non_was m.0 m.1) x m.2

    of_unique : (x : Variable) → IsIn x (variables_of_uniques h.assumptions.uniquely_originating) → IsDeclared variables x
    of_unique x i = let m = unique_with h.assumptions.uniquely_originating x i in unique_declared variables k declared (unique_restored m.0) (unique_was m.0 m.1) x m.2

    pub deleted_declared : HasDeclaredVariables variables h
    deleted_declared = record {
      occurring = of_each_part (IsDeclared variables) h of_strands of_non of_penetrator_non of_unique;
      mapped = λ t x i j. declared.mapped t x (subst (IsIn t) del.from_problem.values i) j;
    }
