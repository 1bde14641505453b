-- What a label has of what its problem states itself: the images that it lists, and all of them if it has all.
use Rattle.std.proofs.Common.{◌≡◌, ◌≢◌, ◌↔◌, ℕ, ◌<◌, List, length, Bool, true, false, not, ap, subst}
use Rattle.std.specs.Prelude.{map}
use Rattle.std.specs.List.{filter}
use Rattle.std.proofs.lemmas.Bool.{both_ways, false_from_ne_true, eq-eqb, eqb-true, not-true}
use Rattle.cp_lists.specs.Lists.{IsIn}
use Rattle.cp_lists.proofs.Members.{into_map, from_map, into_filter, from_filter}
use Rattle.cp_model.specs.Term.{AtomTerm, apply_to_atom}
use Rattle.cp_model.specs.declared.node.OrderPair.{OrderPair}
use Rattle.cp_model.specs.Given.{has_atom, has_unique}
use Rattle.cp_model.specs.Homomorphism.{map_from_problem}
use Rattle.cp_model.specs.OrderTests.{reaches_within}
use Rattle.cp_model.specs.Skeleton.{UniqueAt, Skeleton, Before, IsOrderPair, IsSkeleton, IsNodeOf, term_event_at}
use Rattle.cp_model.specs.Stated.{unique_image, pair_image, IsImageOfOne, KeepsStated}
use Rattle.cp_model.proofs.Gathered.{atoms, uniques}
use Rattle.cp_model.proofs.LawOrder.{before_leads}
use Rattle.cp_skel.proofs.OrderWithout.{way_ends}
use Rattle.cp_sexpr.specs.Syntax.{Form}
use Rattle.cp_language.specs.Problems.{Problem, is_known, on_one_strand}
use Rattle.cp_language.proofs.BoundedSearch.{reaches_all}
use Rattle.cp_report.specs.Skeletons.{is_in_order, skeleton_stated}
use Rattle.cp_report.proofs.CoveringOrder.{three_parts, all_three}
use Rattle.cp_stated.proofs.FittingOrder.{in_order}
use Rattle.cp_readback.specs.AcceptedLabels.{AreListedImages, KeepsListed, HasAllStated}

-- Of the images those that pass the test are those that are listed, if the test finds just these.
listed_images : {A B : Type 0} (g : A → B) (xs : List A) (has : B → Bool) (ls : List B) → ((y : B) → has y ≡ true → IsIn y ls) → ((y : B) → IsIn y ls → has y ≡ true) → AreListedImages g xs ls (filter has (map g xs))
listed_images g xs has ls found finds y = (forth, back)
  where
    forth : IsIn y (filter has (map g xs)) → IsImageOfOne g xs y × IsIn y ls
    forth i =
        let kept = from_filter has (map g xs) i in
        let one = from_map g xs kept.0 in
        (record { item = one.0; listed = one.1; image = one.2 }, found y kept.1)

    back : IsImageOfOne g xs y × IsIn y ls → IsIn y (filter has (map g xs))
    back (one, l) = into_filter has (map g xs) (subst (λ z. IsIn z (map g xs)) one.image (into_map g one.listed)) (finds y l)

-- ---- pairs

-- Of the images of pairs those that pass the test lie between different strands and are in the order.
ordered_images : (k : Skeleton) → ((p : OrderPair) → IsIn p k.pairs → IsOrderPair k p) → (g : OrderPair → OrderPair) (xs : List OrderPair) (p : OrderPair)
    → IsIn p (filter (is_in_order k.strands k.pairs) (map g xs)) ↔ (IsImageOfOne g xs p × (p.earlier.strand ≢ p.later.strand) × Before k p.earlier p.later)
ordered_images k order_pairs g xs p = (forth, back)
  where
    apart : on_one_strand p ≡ false → p.earlier.strand ≡ p.later.strand → ⊥
    apart h e = both_ways (on_one_strand p) h (eq-eqb p.earlier.strand p.later.strand e)

    known : IsNodeOf k.strands p.later → is_known (term_event_at k.strands p.later) ≡ true
    known n = ap is_known n.1

    forth : IsIn p (filter (is_in_order k.strands k.pairs) (map g xs)) → IsImageOfOne g xs p × (p.earlier.strand ≢ p.later.strand) × Before k p.earlier p.later
    forth i =
        let kept = from_filter (is_in_order k.strands k.pairs) (map g xs) i in
        let one = from_map g xs kept.0 in
        let three = three_parts (not (on_one_strand p)) (is_known (term_event_at k.strands p.later)) (reaches_within (length k.pairs) k.pairs p.earlier p.later) kept.1 in
        (record { item = one.0; listed = one.1; image = one.2 }, apart (not-true (on_one_strand p) three.0), in_order k order_pairs p kept.1)

    back : IsImageOfOne g xs p × (p.earlier.strand ≢ p.later.strand) × Before k p.earlier p.later → IsIn p (filter (is_in_order k.strands k.pairs) (map g xs))
    back (one, differ, before) =
        let test : is_in_order k.strands k.pairs p ≡ true = all_three (not (on_one_strand p)) (is_known (term_event_at k.strands p.later)) (reaches_within (length k.pairs) k.pairs p.earlier p.later)
        (ap not (false_from_ne_true (on_one_strand p) (λ h. absurd (differ (eqb-true p.earlier.strand p.later.strand h)))))
        (known (way_ends k p.earlier p.later order_pairs before)) ((reaches_all k.pairs p.earlier p.later).1 (before_leads k p.earlier p.later before)) in
        into_filter (is_in_order k.strands k.pairs) (map g xs) (subst (λ (q : OrderPair). IsIn q (map g xs)) one.image (into_map g one.listed)) test

-- ---- all of them

-- What the items state as the problem's own assumptions and pairs are the images that they list.
pub keeps_listed : (p : Problem) (items : List Form) → IsSkeleton p.protocol (skeleton_stated p items) → ((s : ℕ) → IsIn s (skeleton_stated p items).from_problem.strands → s < length (skeleton_stated p items).strands)
    → KeepsListed p.skeleton (skeleton_stated p items)
keeps_listed p items is within = record {
  in_range = within;
  non = listed_images (apply_to_atom (map_from_problem k).terms) p.skeleton.from_problem.assumptions.non_originating (has_atom k.assumptions.non_originating) k.assumptions.non_originating
      (atoms.found k.assumptions.non_originating) (atoms.finds k.assumptions.non_originating);
  penetrator_non = listed_images (apply_to_atom (map_from_problem k).terms) p.skeleton.from_problem.assumptions.penetrator_non_originating (has_atom k.assumptions.penetrator_non_originating) k.assumptions.penetrator_non_originating
      (atoms.found k.assumptions.penetrator_non_originating) (atoms.finds k.assumptions.penetrator_non_originating);
  unique = listed_images (unique_image (map_from_problem k)) p.skeleton.from_problem.assumptions.uniquely_originating (has_unique k.assumptions.uniquely_originating) k.assumptions.uniquely_originating
      (uniques.found k.assumptions.uniquely_originating) (uniques.finds k.assumptions.uniquely_originating);
  pairs = ordered_images k is.order_pairs (pair_image (map_from_problem k)) p.skeleton.from_problem.pairs;
}
  where
    k : Skeleton
    k = skeleton_stated p items

-- A skeleton that keeps what it lists, and has all that the problem states itself, keeps that.
pub keeps_all : (problem k : Skeleton) → KeepsListed problem k → HasAllStated problem k → KeepsStated problem k
keeps_all problem k listed all = record {
  in_range = listed.in_range;
  non = λ v. (λ i. ((listed.non v).0 i).0, λ one. (listed.non v).1 (one, subst (λ (w : AtomTerm). IsIn w k.assumptions.non_originating) one.image (all.non one.item one.listed)));
  penetrator_non = λ v. (λ i. ((listed.penetrator_non v).0 i).0, λ one. (listed.penetrator_non v).1 (one, subst (λ (w : AtomTerm). IsIn w k.assumptions.penetrator_non_originating) one.image (all.penetrator_non one.item one.listed)));
  unique = λ u. (λ i. ((listed.unique u).0 i).0, λ one. (listed.unique u).1 (one, subst (λ (w : UniqueAt). IsIn w k.assumptions.uniquely_originating) one.image (all.unique one.item one.listed)));
  assumed = record { non = λ v i. ((listed.non v).0 i).1; penetrator_non = λ v i. ((listed.penetrator_non v).0 i).1; unique = λ u i. ((listed.unique u).0 i).1 };
  pairs = λ p. (λ i. let r = (listed.pairs p).0 i in (r.0, r.1), λ r. (listed.pairs p).1 (r.0, r.1, all.pairs p r.0 r.1));
  ordered = λ p i. ((listed.pairs p).0 i).2;
}
