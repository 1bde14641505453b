-- Pairs that are looked up among a skeleton's own.
use Rattle.std.proofs.Common.{◌≡◌, ◌↔◌, ◌⊎◌, inl, inr, ℕ, suc, ◌+◌, ◌<◌, ◌≤◌, ◌==◌, ◌&&◌, ◌||◌, cond, not, Bool, true, false, List, [], ◌∷◌, ◌++◌, length, get_or, drop, refl, sym, ap, subst, ◌∙◌, add-one, arith}
use Rattle.std.proofs.Math.Bool.{or-false}
use Rattle.std.proofs.Math.Seq.{drop-cons}
use Rattle.std.proofs.lemmas.Bool.{or_cases}
use Rattle.std.proofs.lemmas.List.{append-nil, drop_all}
use Rattle.std.proofs.lemmas.Bool.Decides.{Decides-eqb, Decides-and}
use Rattle.std.specs.HashSet.{HashSet, contains}
use Rattle.std.specs.List.{filter}
use Rattle.cp_lists.specs.Lists.{IsIn, here, there}
use Rattle.cp_lists.proofs.Members.{in_append, in_append_left, in_append_right, from_filter, into_filter}
use Rattle.cp_model.specs.Skeleton.{Skeleton}
use Rattle.cp_model.specs.declared.node.Node.{Node}
use Rattle.cp_model.specs.declared.node.OrderPair.{OrderPair}
use Rattle.cp_model.specs.Order.{ReachesAlong, on_strand, over_pair}
use Rattle.cp_order.specs.PredecessorNodes.{Target}
use Rattle.cp_normal.specs.Findings.{IsAddedPair, AreNormalPairs}
use Rattle.cp_normal.specs.OwnPairs.{PairKey, pair_key, is_same_key, has_key, AreKeysOf, is_other, AllLead}

-- ---- the loops

or_on : (a b rest : Bool) → (cond a true b || rest) ≡ (b || (a || rest))
or_on true true rest = refl
or_on true false rest = refl
or_on false b rest = refl

module _ {S : Type 0} (ps : List OrderPair) (i : ℕ) (old : HashSet PairKey S) where
  pub next_key : (d : OrderPair) (new : HashSet PairKey S) → i < length ps → (k : PairKey) → k ≡ pair_key (get_or ps i d) → ((q : PairKey) → contains is_same_key new q ≡ cond (is_same_key k q) true (contains is_same_key old q)) →
      ((q : PairKey) → (contains is_same_key old q || has_key (drop i ps) q) ≡ has_key ps q) → (q : PairKey) →
      (contains is_same_key new q || has_key (drop (i + 1) ps) q) ≡ has_key ps q
  next_key d new l k is put inv q =
      let rest : Bool = has_key (drop (suc i) ps) q in
      let step : has_key (drop i ps) q ≡ (is_same_key (pair_key (get_or ps i d)) q || rest) = ap (λ (xs : List OrderPair). has_key xs q) (drop-cons ps i d l) in
      rw add-one
      (ap (λ b. b || rest) (put q) ∙ or_on (is_same_key k q) (contains is_same_key old q) rest
      ∙ ap (λ (x : PairKey). contains is_same_key old q || (is_same_key x q || rest)) is ∙ ap (λ b. contains is_same_key old q || b) (sym step) ∙ inv q)

  pub all_keys : length ps ≤ i → ((q : PairKey) → (contains is_same_key old q || has_key (drop i ps) q) ≡ has_key ps q) → AreKeysOf old ps
  all_keys l inv q =
      sym (ap (λ (xs : List OrderPair). contains is_same_key old q || has_key xs q) (drop_all i ps l) ∙ or-false (contains is_same_key old q)) ∙ inv q

-- By the keys of the pairs the same ones are left out.
pub by_keys : {S : Type 0} (keys : HashSet PairKey S) (own pairs : List OrderPair) → AreKeysOf keys own → filter (λ p. not (contains is_same_key keys (pair_key p))) pairs ≡ filter (is_other own) pairs
by_keys keys own pairs are = λ i. filter (λ p. not (are (pair_key p) i)) pairs

-- ---- a pair whose key is found is among the pairs

same_key : (p r : OrderPair) → is_same_key (pair_key p) (pair_key r) ≡ true → p ≡ r
same_key p r e =
    let h = (Decides-and ((p.earlier.strand == r.earlier.strand) && (p.earlier.index == r.earlier.index)) ((p.later.strand == r.later.strand) && (p.later.index == r.later.index))
    (Decides-and (p.earlier.strand == r.earlier.strand) (p.earlier.index == r.earlier.index) (Decides-eqb p.earlier.strand r.earlier.strand) (Decides-eqb p.earlier.index r.earlier.index))
    (Decides-and (p.later.strand == r.later.strand) (p.later.index == r.later.index) (Decides-eqb p.later.strand r.later.strand) (Decides-eqb p.later.index r.later.index))).0 e in
    λ i. record { earlier = record { strand = h.0.0 i; index = h.0.1 i }; later = record { strand = h.1.0 i; index = h.1.1 i } }

key_found : (ps : List OrderPair) (r : OrderPair) → has_key ps (pair_key r) ≡ true → IsIn r ps
key_found [] r e = absurd (cc)
key_found (p ∷ ps) r e = elim (or_cases (is_same_key (pair_key p) (pair_key r)) (has_key ps (pair_key r)) e) as (λ _. IsIn r (p ∷ ps)) [
  | inl h ↦ subst (λ x. IsIn r (x ∷ ps)) (sym (same_key p r h)) here
  | inr h ↦ there (key_found ps r h)
]

-- What reaches the later node along the sorted pairs is what reaches it in the order.
pub leads_among : (own sorted : List OrderPair) (x y : Node) (l : Target) (b : Bool) → sorted ≡ own → l ≡ record { pairs = sorted; node = y } → (b ≡ true) ↔ ReachesAlong l.pairs x l.node → (b ≡ true) ↔ ReachesAlong own x y
leads_among own sorted x y l b same e h = subst (λ (ps : List OrderPair). (b ≡ true) ↔ ReachesAlong ps x y) same (subst (λ (t : Target). (b ≡ true) ↔ ReachesAlong t.pairs x t.node) e h)

-- The earlier node of a pair whose key is found reaches the later one in the order.
own_leads : (ps : List OrderPair) (p : OrderPair) → has_key ps (pair_key p) ≡ true → ReachesAlong ps p.earlier p.later
own_leads ps p e = over_pair (key_found ps p e) (refl, omega arith) (on_strand (refl, omega arith))

-- Where that is so of each pair that is not found, it is so of each.
pub others_decide : (own pairs others : List OrderPair) (all : Bool) → others ≡ filter (is_other own) pairs → (all ≡ true) ↔ AllLead own others → (all ≡ true) ↔ AllLead own pairs
others_decide own pairs others all is h = (λ e p m. found_or_other (h.0 e) p (has_key own (pair_key p)) refl m, λ lead. h.1 (others_lead lead))
  where
    found_or_other : AllLead own others → (p : OrderPair) (b : Bool) → has_key own (pair_key p) ≡ b → IsIn p pairs → ReachesAlong own p.earlier p.later
    found_or_other lead p true e m = own_leads own p e
    found_or_other lead p false e m = lead p (subst (IsIn p) (sym is) (into_filter (is_other own) pairs m (ap not e)))

    others_lead : AllLead own pairs → AllLead own others
    others_lead lead p m = lead p (from_filter (is_other own) pairs (subst (IsIn p) is m)).0

-- ---- own pairs, and the others that are added

module _ (k : Skeleton) (added : List OrderPair) (are_added : (p : OrderPair) → IsIn p added ↔ IsAddedPair k p) where
  abbrev others : List OrderPair
  others = filter (is_other k.pairs) added

  own_or_added : (p : OrderPair) → IsIn p k.pairs ⊎ IsIn p others → IsIn p k.pairs ⊎ IsAddedPair k p
  own_or_added p (inl h) = inl h
  own_or_added p (inr h) = inr ((are_added p).0 (from_filter (is_other k.pairs) added h).0)

  own_or_other : (q : OrderPair) (b : Bool) → has_key k.pairs (pair_key q) ≡ b → IsIn q added → IsIn q (k.pairs ++ others)
  own_or_other q true e m = in_append_left others (key_found k.pairs q e)
  own_or_other q false e m = in_append_right k.pairs (into_filter (is_other k.pairs) added m (ap not e))

  in_one : (p : OrderPair) → IsIn p k.pairs ⊎ IsAddedPair k p → IsIn p (k.pairs ++ others)
  in_one p (inl h) = in_append_left others h
  in_one p (inr a) = own_or_other p (has_key k.pairs (pair_key p)) refl ((are_added p).1 a)

  pub normal_of_both : (own more : List OrderPair) → own ≡ k.pairs → more ≡ filter (is_other own) added → AreNormalPairs k (k.pairs ++ more)
  normal_of_both own more same is =
      subst (λ (ps : List OrderPair). AreNormalPairs k (k.pairs ++ ps)) (sym (is ∙ ap (λ (ps : List OrderPair). filter (is_other ps) added) same))
      (λ p. (λ h. own_or_added p (in_append k.pairs others h), λ h. in_one p h))

-- The own pairs and the others in one list.
pub normal_joined : (k : Skeleton) (own more added all : List OrderPair) → own ≡ k.pairs → more ≡ added → all ≡ own ++ more → AreNormalPairs k (k.pairs ++ added) → AreNormalPairs k all
normal_joined k own more added all same is joined are = subst (λ (ps : List OrderPair). AreNormalPairs k ps) (sym (joined ∙ ap (λ ps. ps ++ more) same ∙ ap (λ ps. k.pairs ++ ps) is)) are

-- Where unique values add no other pair, a skeleton's own pairs are those of its normal form.
pub own_alone : (k : Skeleton) (added : List OrderPair) → AreNormalPairs k (k.pairs ++ added) → added ≡ [] → AreNormalPairs k k.pairs
own_alone k added are none = subst (λ (ps : List OrderPair). AreNormalPairs k ps) (ap (λ ps. k.pairs ++ ps) none ∙ append-nil k.pairs) are
