-- What a skeleton has from its problem, its collapses have: strands, own assumptions and own pairs.
use Rattle.std.proofs.Common.{◌<◌, ℕ, List, length, sym, subst}
use Rattle.cp_lists.specs.Lists.{item_at, IsIn}
use Rattle.std.specs.Prelude.{◌≡◌, Some}
use Rattle.cp_model.specs.Term.{Substitution, apply_to, apply_to_atom}
use Rattle.cp_model.specs.Skeleton.{SkeletonStrand, instance, listener, Assumptions, Skeleton, Before, IsOrderPair}
use Rattle.cp_model.specs.declared.node.OrderPair.{OrderPair}
use Rattle.cp_model.specs.Stated.{AreImages, HasOwnAssumptions}
use Rattle.cp_lists.proofs.Items.{item_below, item_there}
use Rattle.cp_model.proofs.Images.{mapped_images, images_within}
use Rattle.cp_model.proofs.Gathered.{atoms, uniques}
use Rattle.cp_collapse.specs.Partitions.{place_in}
use Rattle.cp_collapse.specs.Collapses.{unique_in, IsCollapsed}
use Rattle.cp_collapse.proofs.AssumptionImages.{assumptions_are, gathered_images}
use Rattle.cp_collapse.proofs.AssumptionImages as collapsing
use Rattle.cp_collapse.proofs.Merged.{before_in}

-- Images in the words of what is stated.
images_are : {A B : Type 0} (f : A → B) (xs : List A) (ys : List B) → collapsing.AreImages f xs ys → AreImages f xs ys
images_are f xs ys p y = (λ i. let h = (p y).0 i in record { item = h.0; listed = h.1; image = h.2 }, λ r. (p y).1 (r.item, r.listed, r.image))

-- The assumptions of the problem's own, as the skeleton has them.
abbrev pub own_of : Skeleton → Assumptions
own_of k = k.from_problem.assumptions

module _ (k l : Skeleton) (p : List ℕ) (c : IsCollapsed k p l) where
  abbrev f : Substitution
  f = c.unifier

  -- ---- the strands

  strand_goes : (t : ℕ) (st : SkeletonStrand) → item_at k.strands t ≡ Some st → place_in p t < length l.strands
  strand_goes t (instance role height terms) at = let g = c.instances t role height terms at in item_below l.strands (place_in p t) (instance role g.to_height g.to_terms) g.on_instance
  strand_goes t (listener u) at = item_below l.strands (place_in p t) (listener (apply_to f u)) (c.listeners t u at)

  pub in_range_in : ((s : ℕ) → IsIn s k.from_problem.strands → s < length k.strands) → (s : ℕ) → IsIn s l.from_problem.strands → s < length l.strands
  in_range_in in_range s i =
      let r = (mapped_images (place_in p) k.from_problem.strands s).0 (subst (IsIn s) c.from_problem.strands i) in
      let st = item_there k.strands r.item (in_range r.item r.listed) in
      subst (λ (t : ℕ). t < length l.strands) r.image (strand_goes r.item st.0 st.1)

  -- ---- the assumptions

  pub own_non : AreImages (apply_to_atom f) (own_of k).non_originating (own_of l).non_originating
  own_non = subst (λ (a : Assumptions). AreImages (apply_to_atom f) (own_of k).non_originating a.non_originating) (sym c.from_problem.assumptions) (images_are (apply_to_atom f) (own_of k).non_originating _ (gathered_images atoms (apply_to_atom f) (own_of k).non_originating))

  pub own_penetrator_non : AreImages (apply_to_atom f) (own_of k).penetrator_non_originating (own_of l).penetrator_non_originating
  own_penetrator_non =
      subst (λ (a : Assumptions). AreImages (apply_to_atom f) (own_of k).penetrator_non_originating a.penetrator_non_originating) (sym c.from_problem.assumptions)
      (images_are (apply_to_atom f) (own_of k).penetrator_non_originating _ (gathered_images atoms (apply_to_atom f) (own_of k).penetrator_non_originating))

  pub own_unique : AreImages (unique_in p f) (own_of k).uniquely_originating (own_of l).uniquely_originating
  own_unique = subst (λ (a : Assumptions). AreImages (unique_in p f) (own_of k).uniquely_originating a.uniquely_originating) (sym c.from_problem.assumptions) (images_are (unique_in p f) (own_of k).uniquely_originating _ (gathered_images uniques (unique_in p f) (own_of k).uniquely_originating))

  pub assumed_in : HasOwnAssumptions k → HasOwnAssumptions l
  assumed_in own =
      let all = assumptions_are k l p c in
      record {
        non = images_within (apply_to_atom f) (own_of k).non_originating k.assumptions.non_originating (own_of l).non_originating l.assumptions.non_originating own_non
            (images_are (apply_to_atom f) k.assumptions.non_originating l.assumptions.non_originating all.non) own.non;
        penetrator_non = images_within (apply_to_atom f) (own_of k).penetrator_non_originating k.assumptions.penetrator_non_originating (own_of l).penetrator_non_originating l.assumptions.penetrator_non_originating own_penetrator_non
            (images_are (apply_to_atom f) k.assumptions.penetrator_non_originating l.assumptions.penetrator_non_originating all.penetrator_non) own.penetrator_non;
        unique = images_within (unique_in p f) (own_of k).uniquely_originating k.assumptions.uniquely_originating (own_of l).uniquely_originating l.assumptions.uniquely_originating own_unique
            (images_are (unique_in p f) k.assumptions.uniquely_originating l.assumptions.uniquely_originating all.unique) own.unique;
      }

  -- ---- the pairs

  -- Those that come to lie on one strand are no more the problem's own; the others are in the order.
  pub ordered_in : ((q : OrderPair) → IsIn q k.pairs → IsOrderPair k q) → ((q : OrderPair) → IsIn q k.from_problem.pairs → Before k q.earlier q.later) →
      (r : OrderPair) → IsIn r l.from_problem.pairs → Before l r.earlier r.later
  ordered_in order_pairs ordered r i =
      let h = (c.from_problem.pairs r).0 i in
      subst (λ (d : OrderPair). Before l d.earlier d.later) h.0.2 (before_in k l p c order_pairs (ordered h.0.0 h.0.1))
