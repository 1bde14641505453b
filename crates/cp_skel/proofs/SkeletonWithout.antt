-- A skeleton over a protocol stays one without one of its strands.
use Rattle.std.proofs.Common.{◌≡◌, ◌≢◌, ℕ, List, Some, refl, sym, ap, ◌∙◌, subst}
use Rattle.std.specs.List.{remove}
use Rattle.cp_lists.specs.Lists.{item_at, IsIn}
use Rattle.cp_model.specs.Term.{AtomTerm, apply_to_atom}
use Rattle.cp_model.specs.Bindings.{Binding, as_substitution}
use Rattle.cp_model.specs.Strand.{Role, Protocol, Applies, AppliesAt}
use Rattle.cp_model.specs.Bundle.{node_at}
use Rattle.cp_model.specs.Skeleton.{instance, UniqueAt, Skeleton, IsOrigin, GivesAssumptions, IsSkeleton, term_event_at}
use Rattle.cp_skel.specs.Ordered.{IsOrdered}
use Rattle.cp_skel.specs.Deletion.{renumbered, node_renumbered, unique_renumbered, as_it_is, IsOriginOn, IsForgottenNon, IsForgottenPenetratorNon, IsGivenElsewhere, ForgetsAssumptions}
use Rattle.cp_skel.proofs.NumbersWithout.{restored, restored_renumbered, renumbered_restored, restored_other, item_without, event_kept}
use Rattle.cp_skel.proofs.PairsWithout.{in_left, was_left}

module _ (protocol : Protocol) (d : ℕ) (old new : Skeleton) (was : IsSkeleton protocol old) (strands : new.strands ≡ remove old.strands d) (kept : ForgetsAssumptions d old new.assumptions) where
  strand_was : (s : ℕ) (role : Role) (height : ℕ) (terms : List Binding) → item_at new.strands s ≡ Some (instance role height terms) → item_at old.strands (restored d s) ≡ Some (instance role height terms)
  strand_was s role height terms e = sym (item_without old.strands d s) ∙ sym (ap (λ ss. item_at ss s) strands) ∙ e

  strand_here : (s : ℕ) (role : Role) (height : ℕ) (terms : List Binding) → s ≢ d → item_at old.strands s ≡ Some (instance role height terms) → item_at new.strands (renumbered d s) ≡ Some (instance role height terms)
  strand_here s role height terms h e =
      ap (λ ss. item_at ss (renumbered d s)) strands ∙ item_without old.strands d (renumbered d s) ∙ ap (item_at old.strands) (restored_renumbered d s h) ∙ e

  origin_kept : (u : UniqueAt) → u.origin.strand ≢ d → IsOrigin old u → IsOrigin new (unique_renumbered d u)
  origin_kept u h o = record {
    role = o.role;
    height = o.height;
    terms = o.terms;
    on_instance = strand_here u.origin.strand o.role o.height o.terms h o.on_instance;
    sent = o.sent;
    transmission = ap (λ ss. term_event_at ss (node_renumbered d u.origin)) strands ∙ event_kept old.strands d u.origin h ∙ o.transmission;
    carried = o.carried;
  }

  origins : (u : UniqueAt) → IsIn u new.assumptions.uniquely_originating → IsOrigin new u
  origins u m =
      let w = was_left (IsOriginOn d) (unique_renumbered d) old.assumptions.uniquely_originating new.assumptions.uniquely_originating u kept.unique m in
      subst (IsOrigin new) (sym w.same) (origin_kept w.item w.not_gone (was.origins w.item w.listed))

  module _ (s : ℕ) (role : Role) (height : ℕ) (terms : List Binding) (here : item_at new.strands s ≡ Some (instance role height terms)) where
    gave : GivesAssumptions old (restored d s) role height terms
    gave = was.given (restored d s) role height terms (strand_was s role height terms here)

    elsewhere : (stated : Role → List AtomTerm) (v : AtomTerm) → IsIn v (stated role) → Applies role height v → IsGivenElsewhere stated old.strands d (apply_to_atom (as_substitution terms) v)
    elsewhere stated v m a = record {
      number = restored d s;
      other = restored_other d s;
      gives = record {
        strand = instance role height terms;
        there_is = strand_was s role height terms here;
        gives = record { role = role; height = height; terms = terms; is_instance = refl; given = record { atom = v; listed = m; applies = a; same = refl } };
      };
    }

    non : (v : AtomTerm) → IsIn v role.non_originating → Applies role height v → IsIn (apply_to_atom (as_substitution terms) v) new.assumptions.non_originating
    non v m a =
        in_left (IsForgottenNon old d) as_it_is old.assumptions.non_originating new.assumptions.non_originating (apply_to_atom (as_substitution terms) v) kept.non (gave.non v m a)
        (λ f. f.alone (elsewhere (λ r. r.non_originating) v m a))

    penetrator_non : (v : AtomTerm) → IsIn v role.penetrator_non_originating → Applies role height v → IsIn (apply_to_atom (as_substitution terms) v) new.assumptions.penetrator_non_originating
    penetrator_non v m a =
        in_left (IsForgottenPenetratorNon old d) as_it_is old.assumptions.penetrator_non_originating new.assumptions.penetrator_non_originating (apply_to_atom (as_substitution terms) v) kept.penetrator_non
        (gave.penetrator_non v m a) (λ f. f.alone (elsewhere (λ r. r.penetrator_non_originating) v m a))

    unique : (v : AtomTerm) (i : ℕ) → IsIn v role.uniquely_originating → AppliesAt role height v i →
        IsIn (record { value = apply_to_atom (as_substitution terms) v; origin = node_at s i }) new.assumptions.uniquely_originating
    unique v i m a =
        subst (λ t. IsIn (record { value = apply_to_atom (as_substitution terms) v; origin = node_at t i }) new.assumptions.uniquely_originating) (renumbered_restored d s)
        (in_left (IsOriginOn d) (unique_renumbered d) old.assumptions.uniquely_originating new.assumptions.uniquely_originating (record { value = apply_to_atom (as_substitution terms) v; origin = node_at (restored d s) i }) kept.unique
        (gave.unique v i m a) (restored_other d s))

  pub skeleton_kept : IsOrdered new → IsSkeleton protocol new
  skeleton_kept ordered = record {
    of_role = λ s role height terms e. was.of_role (restored d s) role height terms (strand_was s role height terms e);
    heights = λ s role height terms e. was.heights (restored d s) role height terms (strand_was s role height terms e);
    order_pairs = ordered.order_pairs;
    no_cycle = ordered.no_cycle;
    origins = origins;
    given = λ s role height terms e. record { non = non s role height terms e; penetrator_non = penetrator_non s role height terms e; unique = unique s role height terms e };
  }
