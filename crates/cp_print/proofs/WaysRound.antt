-- Pairs whose nodes are connected over another pair too.
use Rattle.std.proofs.Common.{◌≡◌, ◌↔◌, ◌⊎◌, inl, inr, ◌||◌, ◌==◌, List, [], ◌∷◌, length, map, Bool, true, false, refl, sym, ap, ◌∙◌}
use Rattle.std.specs.Prelude.{not, nat_le}
use Rattle.std.proofs.lemmas.Bool.{both_ways, cases_Bool, or_cases, or_left, or_right, and_from, and_parts, eq-eqb, eqb-true}
use Rattle.std.proofs.lemmas.Bool.Decides.{same_from_decides}
use Rattle.cp_lists.specs.Lists.{IsIn}
use Rattle.cp_lists.proofs.Members.{into_filter, from_filter}
use Rattle.cp_model.specs.declared.node.Node.{Node}
use Rattle.cp_model.specs.declared.node.OrderPair.{OrderPair}
use Rattle.cp_model.specs.Order.{IsAtOrAfter, ReachesAlong}
use Rattle.cp_model.specs.OrderTests.{any_pair, reaches_within}
use Rattle.cp_model.specs.Same.{same_node}
use Rattle.cp_model.proofs.BoundedSearch.{some_in, in_some}
use Rattle.cp_model.proofs.NodeTests.{within_strand, strand_within}
use Rattle.cp_model.proofs.SameTests.{node_is, is_node}
use Rattle.cp_language.proofs.BoundedSearch.{reaches_all}
use Rattle.cp_report.proofs.CoveringOrder.{three_parts, all_three}
use Rattle.cp_print.specs.Order.{enters_too, shared, entry_of, implies, is_implied}

-- the search for what reaches a node finds what is reached
pub leads_by_test : (pairs : List OrderPair) (x y : Node) (b : Bool) → (b ≡ true) ↔ ReachesAlong pairs x y → b ≡ reaches_within (length pairs) pairs x y
leads_by_test pairs x y b h = same_from_decides b (reaches_within (length pairs) pairs x y) h (reaches_all pairs x y)

-- Another pair ends where p ends or before that on its strand, and p's earlier node reaches that pair's.
pub record IsWayRound (pairs : List OrderPair) (p : OrderPair) : Type 0 where
  pub over : OrderPair
  pub listed : IsIn over pairs
  pub ends : IsAtOrAfter over.later p.later
  pub other : over ≡ p → ⊥
  pub leads : ReachesAlong pairs p.earlier over.earlier

-- ---- another pair on the same strand

too_parts : (p q : OrderPair) → enters_too p q ≡ true → (q.later.strand ≡ p.later.strand) × (q ≡ p → ⊥)
too_parts p q h = (eqb-true q.later.strand p.later.strand two.0, λ e. by e (or_cases (not (same_node q.earlier p.earlier)) (not (same_node q.later p.later)) two.1))
  where
    two : ((q.later.strand == p.later.strand) ≡ true) × ((not (same_node q.earlier p.earlier) || not (same_node q.later p.later)) ≡ true)
    two = and_parts (q.later.strand == p.later.strand) (not (same_node q.earlier p.earlier) || not (same_node q.later p.later)) h

    by : q ≡ p → (not (same_node q.earlier p.earlier) ≡ true) ⊎ (not (same_node q.later p.later) ≡ true) → ⊥
    by e (inl n) = both_ways (not (same_node q.earlier p.earlier)) (ap not (is_node q.earlier p.earlier (ap (λ (o : OrderPair). o.earlier) e))) n
    by e (inr n) = both_ways (not (same_node q.later p.later)) (ap not (is_node q.later p.later (ap (λ (o : OrderPair). o.later) e))) n

too_from : (p q : OrderPair) → q.later.strand ≡ p.later.strand → (q ≡ p → ⊥) → enters_too p q ≡ true
too_from p q e other =
    and_from (q.later.strand == p.later.strand) (not (same_node q.earlier p.earlier) || not (same_node q.later p.later)) (eq-eqb q.later.strand p.later.strand e)
    (by (cases_Bool (same_node q.earlier p.earlier)) (cases_Bool (same_node q.later p.later)))
  where
    by : (same_node q.earlier p.earlier ≡ true) ⊎ (same_node q.earlier p.earlier ≡ false) → (same_node q.later p.later ≡ true) ⊎ (same_node q.later p.later ≡ false) → (not (same_node q.earlier p.earlier) || not (same_node q.later p.later)) ≡ true
    by (inl a) (inl b) =
        let first = node_is q.earlier p.earlier a in
        let last = node_is q.later p.later b in
        absurd (other (λ i. record { earlier = first i; later = last i }))
    by (inl a) (inr b) = or_right (not (same_node q.earlier p.earlier)) (not (same_node q.later p.later)) (ap not b)
    by (inr a) b = or_left (not (same_node q.earlier p.earlier)) (not (same_node q.later p.later)) (ap not a)

-- ---- the test finds the ways round

module _ (pairs : List OrderPair) (p : OrderPair) where
  is_some : (qs : List OrderPair) → is_implied (map (entry_of pairs) qs) p ≡ any_pair (λ q. implies p (entry_of pairs q)) qs
  is_some [] = refl
  is_some (q ∷ qs) = ap (λ (b : Bool). implies p (entry_of pairs q) || b) (is_some qs)

  pub way_found : is_implied (map (entry_of pairs) (shared pairs)) p ≡ true → IsWayRound pairs p
  way_found h =
      let found = some_in (λ q. implies p (entry_of pairs q)) (shared pairs) (sym-some h) in
      let q : OrderPair = found.0 in
      let parts = three_parts (nat_le q.later.index p.later.index) (enters_too p q) (reaches_within (length pairs) pairs p.earlier q.earlier) found.2 in
      let two = too_parts p q parts.1 in
      record {
        over = q;
        listed = (from_filter (λ o. any_pair (enters_too o) pairs) pairs found.1).0;
        ends = within_strand q.later.strand p.later.strand q.later.index p.later.index (and_from (q.later.strand == p.later.strand) (nat_le q.later.index p.later.index) (eq-eqb q.later.strand p.later.strand two.0) parts.0);
        other = two.1;
        leads = (reaches_all pairs p.earlier q.earlier).0 parts.2;
      }
    where
      sym-some : is_implied (map (entry_of pairs) (shared pairs)) p ≡ true → any_pair (λ q. implies p (entry_of pairs q)) (shared pairs) ≡ true
      sym-some e = sym (is_some (shared pairs)) ∙ e

  pub way_finds : IsIn p pairs → IsWayRound pairs p → is_implied (map (entry_of pairs) (shared pairs)) p ≡ true
  way_finds m w =
      let q : OrderPair = w.over in
      let within = and_parts (q.later.strand == p.later.strand) (nat_le q.later.index p.later.index) (strand_within q.later.strand p.later.strand q.later.index p.later.index w.ends.0 w.ends.1) in
      let together = in_some (enters_too q) pairs p m (too_from q p (sym w.ends.0) (λ e. w.other (sym e))) in
      is_some (shared pairs)
      ∙ in_some (λ o. implies p (entry_of pairs o)) (shared pairs) q (into_filter (λ o. any_pair (enters_too o) pairs) pairs w.listed together)
      (all_three (nat_le q.later.index p.later.index) (enters_too p q) (reaches_within (length pairs) pairs p.earlier q.earlier) within.1 (too_from p q w.ends.0 w.other) ((reaches_all pairs p.earlier q.earlier).1 w.leads))
