-- What rules a partition of the first strands out rules out every partition that has its blocks.
use Rattle.std.proofs.Common.{◌≡◌, ◌≢◌, ◌⊎◌, inl, inr, ℕ, ◌<◌, ◌≤◌, List, [], ◌∷◌, ◌++◌, Option, Some, None, length, refl, sym, ap, ◌∙◌, subst, subst₂, arith}
use native.Mathlib.Decide.{dec_lt}
use Rattle.cp_lists.specs.Lists.{item_at, IsIn}
use Rattle.cp_model.specs.Term.{Assignment}
use Rattle.cp_model.specs.declared.strand.Event.TheVariants.{Receive as recv}
use Rattle.cp_model.specs.declared.node.Node.{Node}
use Rattle.cp_model.specs.declared.node.OrderPair.{OrderPair}
use Rattle.cp_model.specs.Homomorphism.{number_or, strand_in}
use Rattle.cp_model.specs.Order.{ReachesAlong}
use Rattle.cp_model.specs.Skeleton.{Skeleton, Before, IsNodeOf, IsOrderPair}
use Rattle.cp_lists.proofs.Items.{item_below, item_past, item_in_front, item_end}
use Rattle.cp_lists.proofs.Members.{in_pushed}
use Rattle.cp_model.proofs.LawOrder.{leads_before}
use Rattle.cp_collapse.specs.Partitions.{AreTogether, IdentifiesValues, lowest_before, place_in}
use Rattle.cp_collapse.specs.Collapses.{IsNeverIdentified, HasWayBackward, IsImpossible}
use Rattle.cp_collapse.specs.declared.kept_apart.Apart.{Apart}
use Rattle.cp_collapse.specs.FirstPartitions.{IsPartitionOfFirst, IsRuledOut, AreKeptApart, AreApart}
use Rattle.cp_collapse.proofs.Places.{IsOwn, own_entry, own_beyond, one_at_place, place_of_entry}

-- ---- blocks that never have equal values

still_together : (p : List ℕ) (l s t : ℕ) → AreTogether p s t → AreTogether (p ++ (l ∷ [])) s t
still_together p l s t a =
    (a.0, item_in_front p (l ∷ []) s (item_below p s a.0 a.1) ∙ a.1, item_in_front p (l ∷ []) t (item_below p t a.0 a.2) ∙ a.2)

pub identifies_first : (k : Skeleton) (p : List ℕ) (l : ℕ) (g : Assignment) → IdentifiesValues k (p ++ (l ∷ [])) g → IdentifiesValues k p g
identifies_first k p l g i s t role height terms height' terms' at au a = i s t role height terms height' terms' at au (still_together p l s t a)

still_never : (k : Skeleton) (p : List ℕ) (l : ℕ) → IsNeverIdentified k p → IsNeverIdentified k (p ++ (l ∷ []))
still_never k p l never g i = never g (identifies_first k p l g i)

-- ---- orders that come to lead backward

module _ (k : Skeleton) (n : ℕ) (p : List ℕ) (part : IsPartitionOfFirst k n p) where
  own_at : (s : ℕ) (o : Option ℕ) → item_at p s ≡ o → IsOwn p (number_or s o)
  own_at s None e = own_beyond p s e
  own_at s (Some l) e = own_entry p l (part.lowest s l e).1

  -- Strands at one place are in one block.
  pub one_block : (s t : ℕ) → place_in p s ≡ place_in p t → strand_in p s ≡ strand_in p t
  one_block s t e = one_at_place p (strand_in p s) (strand_in p t) (own_at s (item_at p s) refl) (own_at t (item_at p t) refl) e

  at_most : (s : ℕ) (o : Option ℕ) → item_at p s ≡ o → number_or s o ≤ s
  at_most s None e = omega arith
  at_most s (Some l) e = (part.lowest s l e).0

  not_past : (s t : ℕ) → s < length p → length p ≤ t → strand_in p s ≡ strand_in p t → ⊥
  not_past s t less le e =
      let own : strand_in p s ≤ s = at_most s (item_at p s) refl in
      let past : strand_in p t ≡ t = ap (number_or t) (item_past p t le) in
      omega (arith, less, le, e, own, past)

  module _ (l : ℕ) where
    in_front : (s : ℕ) → s < length p → strand_in (p ++ (l ∷ [])) s ≡ strand_in p s
    in_front s less = ap (number_or s) (item_in_front p (l ∷ []) s less)

    -- They still are if one strand more has an entry.
    still_one_block : (s t : ℕ) → strand_in p s ≡ strand_in p t → strand_in (p ++ (l ∷ [])) s ≡ strand_in (p ++ (l ∷ [])) t
    still_one_block s t e = by (dec_lt s (length p)) (dec_lt t (length p))
      where
        by : Dec (s < length p) → Dec (t < length p) → strand_in (p ++ (l ∷ [])) s ≡ strand_in (p ++ (l ∷ [])) t
        by (yes a) (yes b) = in_front s a ∙ e ∙ sym (in_front t b)
        by (yes a) (no b) = absurd (not_past s t a (omega (arith, b)) e)
        by (no a) (yes b) = absurd (not_past t s b (omega (arith, a)) (sym e))
        by (no a) (no b) =
            let same : s ≡ t = sym (ap (number_or s) (item_past p s (omega (arith, a)))) ∙ e ∙ ap (number_or t) (item_past p t (omega (arith, b))) in
            ap (strand_in (p ++ (l ∷ []))) same

    still_turned : HasWayBackward k p → HasWayBackward k (p ++ (l ∷ []))
    still_turned w = record {
      order_pairs = w.order_pairs;
      from = w.from;
      to = w.to;
      way = w.way;
      other_strand = w.other_strand;
      on_one = ap (lowest_before (p ++ (l ∷ []))) (still_one_block w.from.strand w.to.strand (one_block w.from.strand w.to.strand w.on_one));
      backward = w.backward;
    }

    pub still_ruled_out : IsRuledOut k p → IsRuledOut k (p ++ (l ∷ []))
    still_ruled_out (inl never) = inl (still_never k p l never)
    still_ruled_out (inr turned) = inr (still_turned turned)

    -- Where strand n joins a block with a strand from which the order keeps it apart, this comes to lead backward.
    module _ (t : ℕ) (at : item_at p t ≡ Some l) where
      place_of_last : place_in (p ++ (l ∷ [])) n ≡ lowest_before (p ++ (l ∷ [])) l
      place_of_last = place_of_entry (p ++ (l ∷ [])) n l (item_end p l n part.each)

      place_before : place_in (p ++ (l ∷ [])) t ≡ lowest_before (p ++ (l ∷ [])) l
      place_before = place_of_entry (p ++ (l ∷ [])) t l (item_in_front p (l ∷ []) t (item_below p t l at) ∙ at)

      others : (s u : ℕ) → s ≡ n → u ≡ t → s ≢ u
      others s u e f same = let less = item_below p t l at in let len = part.each in omega (arith, e, f, same, less, len)

      pub turned_if_joined : AreKeptApart k n t → IsRuledOut k (p ++ (l ∷ []))
      turned_if_joined h = inr (record { order_pairs = h.order_pairs; from = h.from; to = h.to; way = h.way; other_strand = (by h.between).0; on_one = (by h.between).1; backward = h.backward })
        where
          place : ℕ → ℕ
          place = place_in (p ++ (l ∷ []))

          by : ((h.from.strand ≡ n) × (h.to.strand ≡ t)) ⊎ ((h.from.strand ≡ t) × (h.to.strand ≡ n)) → (h.from.strand ≢ h.to.strand) × (place h.from.strand ≡ place h.to.strand)
          by (inl e) = (others h.from.strand h.to.strand e.0 e.1, ap place e.0 ∙ place_of_last ∙ sym place_before ∙ sym (ap place e.1))
          by (inr e) = (λ same. others h.to.strand h.from.strand e.1 e.0 (sym same), ap place e.0 ∙ place_before ∙ sym place_of_last ∙ sym (ap place e.1))

-- ---- strands that the order keeps apart

-- The other order of the strands.
pub apart_too : (k : Skeleton) (s t : ℕ) → AreKeptApart k s t → AreKeptApart k t s
apart_too k s t a = record { order_pairs = a.order_pairs; from = a.from; to = a.to; way = a.way; between = by a.between; backward = a.backward }
  where
    by : ((a.from.strand ≡ s) × (a.to.strand ≡ t)) ⊎ ((a.from.strand ≡ t) × (a.to.strand ≡ s)) → ((a.from.strand ≡ t) × (a.to.strand ≡ s)) ⊎ ((a.from.strand ≡ s) × (a.to.strand ≡ t))
    by (inl e) = inr e
    by (inr e) = inl e

-- The later node of a pair is there.
pub later_node : (k : Skeleton) → ((q : OrderPair) → IsIn q k.pairs → IsOrderPair k q) → (qs : List OrderPair) (q : OrderPair) → qs ≡ k.pairs → IsIn q qs → IsNodeOf k.strands q.later
later_node k order_pairs qs q e i = let o = order_pairs q (subst (IsIn q) e i) in (recv o.received, o.reception)

-- A node of strand s reaches one of another strand that has its index.
pub apart_by_way : (k : Skeleton) → ((q : OrderPair) → IsIn q k.pairs → IsOrderPair k q) → (s : ℕ) (n : Node) → IsNodeOf k.strands n → s ≢ n.strand → ReachesAlong k.pairs (record { strand = s; index = n.index }) n →
    AreKeptApart k s n.strand
apart_by_way k order_pairs s n is ne r = by (leads_before k order_pairs from n is r)
  where
    from : Node
    from = record { strand = s; index = n.index }

    by : (from ≡ n) ⊎ Before k from n → AreKeptApart k s n.strand
    by (inl e) = absurd (ne (ap (λ (m : Node). m.strand) e))
    by (inr b) = record { order_pairs = order_pairs; from = from; to = n; way = b; between = inl (refl, refl); backward = omega arith }

-- Two strands more that are kept apart.
pub two_more_apart : (k : Skeleton) (old new : List Apart) (a : Apart) → AreApart k old → AreKeptApart k a.higher a.lower → new ≡ old ++ (a ∷ []) → AreApart k new
two_more_apart k old new a all one e b i = by (in_pushed old a b (subst (IsIn b) e i))
  where
    by : IsIn b old ⊎ (a ≡ b) → AreKeptApart k b.higher b.lower
    by (inl j) = all b j
    by (inr same) = subst (λ (c : Apart). AreKeptApart k c.higher c.lower) same one

-- One strand more that is kept apart from strand n.
pub one_more_apart : (k : Skeleton) (n : ℕ) (old new : List ℕ) (all : List Apart) (a : Apart) → AreApart k all → IsIn a all → a.higher ≡ n → ((t : ℕ) → IsIn t old → AreKeptApart k n t) → new ≡ old ++ (a.lower ∷ []) →
    (t : ℕ) → IsIn t new → AreKeptApart k n t
one_more_apart k n old new all a apart listed here so_far e t i = by (in_pushed old a.lower t (subst (IsIn t) e i))
  where
    by : IsIn t old ⊎ (a.lower ≡ t) → AreKeptApart k n t
    by (inl j) = so_far t j
    by (inr same) = subst₂ (AreKeptApart k) here same (apart a listed)

-- A partition of all strands that is ruled out is impossible.
pub ruled_out_impossible : (k : Skeleton) (p : List ℕ) → IsRuledOut k p → IsImpossible k p
ruled_out_impossible k p (inl never) = inl never
ruled_out_impossible k p (inr turned) = inr (inl turned)
