-- The covering pairs of a skeleton are those of its pairs that the others do not imply.
use Rattle.std.proofs.Common.{◌≡◌, ◌↔◌, ◌⊎◌, inl, inr, ◌&&◌, ◌||◌, ◌==◌, List, [], ◌∷◌, ◌++◌, length, map, Bool, true, false, refl, sym, ap, ◌∙◌, subst, if◌then◌else◌, arith}
use Rattle.std.specs.Prelude.{not}
use Rattle.std.specs.List.{filter}
use Rattle.std.proofs.lemmas.Bool.{both_ways, cases_Bool, or_cases, or_left, or_right, and_from, and_parts, eq-eqb, eqb-true, not-true, false_from_ne_true}
use Rattle.std.proofs.lemmas.Bool.Decides.{same_from_decides}
use Rattle.cp_lists.specs.Lists.{IsIn, here, there}
use Rattle.cp_lists.proofs.Members.{into_filter, from_filter, into_map, from_map}
use Rattle.cp_lists.proofs.Reached.{steps_append}
use Rattle.cp_model.specs.declared.strand.Event.TheVariants.{Send as send, Receive as recv}
use Rattle.cp_model.specs.declared.node.Node.{Node}
use Rattle.cp_model.specs.declared.node.OrderPair.{OrderPair}
use Rattle.cp_model.specs.Order.{IsAtOrAfter, ReachesAlong, on_strand, over_pair}
use Rattle.cp_model.specs.OrderTests.{reaches_within}
use Rattle.cp_model.specs.Same.{same_node}
use Rattle.cp_model.specs.Skeleton.{Skeleton, Before, IsNodeOf, IsOrderPair}
use Rattle.cp_model.proofs.BoundedSearch.{after_both, leads_both}
use Rattle.cp_model.proofs.LawOrder.{leads_before}
use Rattle.cp_model.proofs.SameTests.{node_is, is_node}
use Rattle.cp_skel.specs.Sound.{IsSound}
use Rattle.cp_sexpr.specs.Syntax.{Form}
use Rattle.cp_language.proofs.BoundedSearch.{reaches_all}
use Rattle.cp_language.specs.Printed.{plain_list}
use Rattle.cp_language.specs.Report.{node_form, nodes_from, is_before, any_node, is_covering, covering_with, covering_from, covering_pairs}
use Rattle.cp_report.proofs.CoveringOrder.{three_parts, all_three}
use Rattle.cp_report.proofs.CoveringPairs.{from_listed}
use Rattle.cp_report.proofs.CoveringSkeletons.{node_listed, listed_node, cover_in}
use Rattle.cp_print.specs.declared.order.Entry.{Entry}
use Rattle.cp_print.specs.Order.{shared, entry_of, is_implied, covers_of, led_to, has_node, covered, all_covered}
use Rattle.cp_print.proofs.WaysRound.{IsWayRound, way_found, way_finds}

-- ---- nodes in lists

found_node : (test : Node → Bool) (ns : List Node) → any_node test ns ≡ true → (z : Node) × IsIn z ns × (test z ≡ true)
found_node test [] h = absurd (cc)
found_node test (n ∷ ns) h = by (or_cases (test n) (any_node test ns) h) (found_node test ns)
  where
    by : (test n ≡ true) ⊎ (any_node test ns ≡ true) → (any_node test ns ≡ true → (z : Node) × IsIn z ns × (test z ≡ true)) → (z : Node) × IsIn z (n ∷ ns) × (test z ≡ true)
    by (inl e) rest = (n, here, e)
    by (inr e) rest = ((rest e).0, there (rest e).1, (rest e).2)

finds_node : (test : Node → Bool) {z : Node} (ns : List Node) → IsIn z ns → test z ≡ true → any_node test ns ≡ true
finds_node test [] i h = elim i [ ]
finds_node test (n ∷ ns) here h = or_left (test n) (any_node test ns) h
finds_node test (n ∷ ns) (there i) h = or_right (test n) (any_node test ns) (finds_node test ns i h)

has_any : (zs : List Node) (y : Node) → has_node zs y ≡ any_node (λ z. same_node z y) zs
has_any [] y = refl
has_any (z ∷ zs) y = ap (λ (b : Bool). same_node z y || b) (has_any zs y)

-- a node is one of those to which the pairs lead from x if there is such a pair
led_decided : (ps : List OrderPair) (x y : Node) → (has_node (led_to ps x) y ≡ true) ↔ IsIn (record { earlier = x; later = y }) ps
led_decided ps x y = (forth, back)
  where
    forth : has_node (led_to ps x) y ≡ true → IsIn (record { earlier = x; later = y }) ps
    forth h =
        let end = found_node (λ z. same_node z y) (led_to ps x) (sym (has_any (led_to ps x) y) ∙ h) in
        let made = from_map (λ (p : OrderPair). p.later) (filter (λ p. same_node p.earlier x) ps) end.1 in
        let kept = from_filter (λ (p : OrderPair). same_node p.earlier x) ps made.1 in
        let first = node_is made.0.earlier x kept.1 in
        let last = made.2 ∙ node_is end.0 y end.2 in
        subst (λ (p : OrderPair). IsIn p ps) (λ i. record { earlier = first i; later = last i }) kept.0

    back : IsIn (record { earlier = x; later = y }) ps → has_node (led_to ps x) y ≡ true
    back m =
        let kept = into_filter (λ (p : OrderPair). same_node p.earlier x) ps m (is_node x x refl) in
        has_any (led_to ps x) y ∙ finds_node (λ z. same_node z y) (led_to ps x) (into_map (λ (p : OrderPair). p.later) kept) (is_node y y refl)

at_itself : (x : Node) → IsAtOrAfter x x
at_itself x = (refl, omega arith)

-- The last pair on a way.
record LastPair (pairs : List OrderPair) (x y : Node) : Type 0 where
  pair : OrderPair
  listed : IsIn pair pairs
  leads : ReachesAlong pairs x pair.earlier
  ends : IsAtOrAfter pair.later y

last_pair : (pairs : List OrderPair) (x y : Node) → ReachesAlong pairs x y → IsAtOrAfter x y ⊎ LastPair pairs x y
last_pair pairs x y (on_strand a) = inl a
last_pair pairs x y (over_pair {p} m a l) = inr (by (last_pair pairs p.later y l))
  where
    by : IsAtOrAfter p.later y ⊎ LastPair pairs p.later y → LastPair pairs x y
    by (inl b) = record { pair = p; listed = m; leads = on_strand a; ends = b }
    by (inr b) = record { pair = b.pair; listed = b.listed; leads = over_pair m a b.leads; ends = b.ends }

module _ (pairs : List OrderPair) where
  before_parts : (x y : Node) → is_before pairs x y ≡ true → (x ≡ y → ⊥) × ReachesAlong pairs x y
  before_parts x y h =
      let two = and_parts (not (same_node x y)) (reaches_within (length pairs) pairs x y) h in
      (λ e. both_ways (not (same_node x y)) (ap not (is_node x y e)) two.0, (reaches_all pairs x y).0 two.1)

  is_before_by : (x y : Node) → (x ≡ y → ⊥) → ReachesAlong pairs x y → is_before pairs x y ≡ true
  is_before_by x y other l =
      let apart = false_from_ne_true (same_node x y) (λ h. other (node_is x y h)) in
      and_from (not (same_node x y)) (reaches_within (length pairs) pairs x y) (ap not apart) ((reaches_all pairs x y).1 l)

  pair_leads : (p : OrderPair) → IsIn p pairs → ReachesAlong pairs p.earlier p.later
  pair_leads p m = over_pair m (at_itself p.earlier) (on_strand (at_itself p.later))

module _ (k : Skeleton) (order_pairs : (p : OrderPair) → IsIn p k.pairs → IsOrderPair k p) (no_cycle : (n : Node) → Before k n n → ⊥) where
  abbrev nodes : List Node
  nodes = nodes_from 0 k.strands

  abbrev between : Node → Node → Node → Bool
  between x y z = is_before k.pairs x z && is_before k.pairs z y

  abbrev IsBetween : Node → Node → Node → Type 0
  IsBetween x y z = (x ≡ z → ⊥) × ReachesAlong k.pairs x z × (z ≡ y → ⊥) × ReachesAlong k.pairs z y

  -- the nodes of a pair are nodes, and on different strands
  earlier_there : (p : OrderPair) → IsIn p k.pairs → IsNodeOf k.strands p.earlier
  earlier_there p m = (send (order_pairs p m).sent, (order_pairs p m).transmission)

  later_listed : (p : OrderPair) → IsIn p k.pairs → IsIn p.later nodes
  later_listed p m = node_listed k.strands p.later (recv (order_pairs p m).received, (order_pairs p m).reception)

  -- two nodes do not reach each other
  no_return : (x z : Node) → IsNodeOf k.strands x → IsNodeOf k.strands z → (x ≡ z → ⊥) → ReachesAlong k.pairs x z → ReachesAlong k.pairs z x → ⊥
  no_return x z n m other forth back = by (leads_before k order_pairs x z m forth) (leads_before k order_pairs z x n back)
    where
      by : (x ≡ z) ⊎ Before k x z → (z ≡ x) ⊎ Before k z x → ⊥
      by (inl e) b = other e
      by (inr a) (inl e) = other (sym e)
      by (inr a) (inr b) = no_cycle x (steps_append a b)

  -- ---- what is covered has no way round

  module _ (x y : Node) (i : IsIn x nodes) (j : IsIn y nodes) (h : is_covering k.pairs nodes x y ≡ true) where
    parts : (not (x.strand == y.strand) ≡ true) × (is_before k.pairs x y ≡ true) × (not (any_node (between x y) nodes) ≡ true)
    parts = three_parts (not (x.strand == y.strand)) (is_before k.pairs x y) (not (any_node (between x y) nodes)) h

    apart : x.strand ≡ y.strand → ⊥
    apart e = both_ways (x.strand == y.strand) (not-true (x.strand == y.strand) parts.0) (eq-eqb x.strand y.strand e)

    nothing : (z : Node) → IsIn z nodes → IsBetween x y z → ⊥
    nothing z m b =
        both_ways (any_node (between x y) nodes) (not-true (any_node (between x y) nodes) parts.2)
        (finds_node (between x y) nodes m (and_from (is_before k.pairs x z) (is_before k.pairs z y) (is_before_by k.pairs x z b.0 b.1) (is_before_by k.pairs z y b.2 b.3)))

    no_way_round : IsWayRound k.pairs (record { earlier = x; later = y }) → ⊥
    no_way_round w = by (cases_Bool (same_node w.over.later y))
      where
        q : OrderPair
        q = w.over

        by : (same_node w.over.later y ≡ true) ⊎ (same_node w.over.later y ≡ false) → ⊥
        by (inl e) =
            let last = node_is q.later y e in
            nothing q.earlier (node_listed k.strands q.earlier (earlier_there q w.listed)) (
              λ f. w.other (λ i. record { earlier = sym f i; later = last i }),
              w.leads,
              λ f. absurd ((order_pairs q w.listed).between_strands (ap (λ (o : Node). o.strand) (f ∙ sym last))),
              over_pair w.listed (at_itself q.earlier) (on_strand w.ends),
            )
        by (inr e) =
            nothing q.later (later_listed q w.listed) (
              λ f. apart (ap (λ (o : Node). o.strand) f ∙ w.ends.0),
              leads_both k.pairs x q.earlier q.later w.leads (pair_leads k.pairs q w.listed),
              λ f. both_ways (same_node q.later y) e (is_node q.later y f),
              on_strand w.ends,
            )

  -- ---- what has none is covered

  module _ (p : OrderPair) (m : IsIn p k.pairs) where
    over_last : (z : Node) → IsBetween p.earlier p.later z → IsAtOrAfter z p.later → IsAtOrAfter p.earlier z ⊎ LastPair k.pairs p.earlier z → IsWayRound k.pairs p
    over_last z b a (inl c) = absurd ((order_pairs p m).between_strands (c.0 ∙ a.0))
    over_last z b a (inr l) = record {
      over = l.pair;
      listed = l.listed;
      ends = after_both l.pair.later z p.later l.ends a;
      other = λ e.
          let back : IsAtOrAfter p.later z = subst (λ (o : OrderPair). IsAtOrAfter o.later z) e l.ends in
          let index : z.index ≡ p.later.index = omega (arith, a.1, back.1) in
          b.2 (λ i. record { strand = a.0 i; index = index i });
      leads = l.leads;
    }

    way_round : (z : Node) → IsIn z nodes → IsBetween p.earlier p.later z → IsAtOrAfter z p.later ⊎ LastPair k.pairs z p.later → IsWayRound k.pairs p
    way_round z n b (inl a) = over_last z b a (last_pair k.pairs p.earlier z b.1)
    way_round z n b (inr l) = record {
      over = l.pair;
      listed = l.listed;
      ends = l.ends;
      other = λ e. no_return p.earlier z (earlier_there p m) (listed_node k.strands z n) b.0 b.1 (subst (λ (o : OrderPair). ReachesAlong k.pairs z o.earlier) e l.leads);
      leads = leads_both k.pairs p.earlier z l.pair.earlier b.1 l.leads;
    }

    is_covered : (IsWayRound k.pairs p → ⊥) → is_covering k.pairs nodes p.earlier p.later ≡ true
    is_covered none =
        let apart = (order_pairs p m).between_strands in
        all_three (not (p.earlier.strand == p.later.strand)) (is_before k.pairs p.earlier p.later) (not (any_node (between p.earlier p.later) nodes))
        (ap not (false_from_ne_true (p.earlier.strand == p.later.strand) (λ e. absurd (apart (eqb-true p.earlier.strand p.later.strand e)))))
        (is_before_by k.pairs p.earlier p.later (λ e. absurd (apart (ap (λ (o : Node). o.strand) e))) (pair_leads k.pairs p m))
        (ap not (false_from_ne_true (any_node (between p.earlier p.later) nodes) (λ e. none (round (found_node (between p.earlier p.later) nodes e)))))
      where
        round : (z : Node) × IsIn z nodes × (between p.earlier p.later z ≡ true) → IsWayRound k.pairs p
        round (z, n, e) =
            let two = and_parts (is_before k.pairs p.earlier z) (is_before k.pairs z p.later) e in
            let first = before_parts k.pairs p.earlier z two.0 in
            let last = before_parts k.pairs z p.later two.1 in
            way_round z n (first.0, first.1, last.0, last.1) (last_pair k.pairs z p.later last.1)

  -- ---- the lists

  abbrev implied : OrderPair → Bool
  implied p = is_implied (map (entry_of k.pairs) (shared k.pairs)) p

  abbrev covers : List OrderPair
  covers = covers_of k.pairs (map (entry_of k.pairs) (shared k.pairs))

  covering_decided : (x y : Node) → IsIn x nodes → IsIn y nodes → (is_covering k.pairs nodes x y ≡ true) ↔ IsIn (record { earlier = x; later = y }) covers
  covering_decided x y i j = (forth, back)
    where
      p : OrderPair
      p = record { earlier = x; later = y }

      forth : is_covering k.pairs nodes x y ≡ true → IsIn p covers
      forth h =
          let listed = cover_in k order_pairs no_cycle p (from_listed k.pairs nodes nodes x y i j h) in
          into_filter (λ o. not (implied o)) k.pairs listed (ap not (false_from_ne_true (implied p) (λ e. no_way_round x y i j h (way_found k.pairs p e))))

      back : IsIn p covers → is_covering k.pairs nodes x y ≡ true
      back m =
          let kept = from_filter (λ o. not (implied o)) k.pairs m in
          is_covered p kept.0 (λ w. both_ways (implied p) (not-true (implied p) kept.1) (way_finds k.pairs p kept.0 w))

  same_test : (x y : Node) → IsIn x nodes → IsIn y nodes → has_node (led_to covers x) y ≡ is_covering k.pairs nodes x y
  same_test x y i j = same_from_decides (has_node (led_to covers x) y) (is_covering k.pairs nodes x y) (led_decided covers x y) (covering_decided x y i j)

  with_same : (x : Node) → IsIn x nodes → (ys : List Node) → ((y : Node) → IsIn y ys → IsIn y nodes) → covered (led_to covers x) x ys ≡ covering_with k.pairs nodes x ys
  with_same x i [] within = refl
  with_same x i (y ∷ ys) within =
      ap (λ (b : Bool). if b then plain_list (node_form x ∷ node_form y ∷ []) ∷ covered (led_to covers x) x ys else covered (led_to covers x) x ys) (same_test x y i (within y here))
      ∙ ap (λ (fs : List Form). if is_covering k.pairs nodes x y then plain_list (node_form x ∷ node_form y ∷ []) ∷ fs else fs) (with_same x i ys (λ z n. within z (there n)))

  from_same : (xs : List Node) → ((x : Node) → IsIn x xs → IsIn x nodes) → all_covered covers nodes xs ≡ covering_from k.pairs nodes xs
  from_same [] within = refl
  from_same (x ∷ xs) within =
      ap (λ (fs : List Form). fs ++ all_covered covers nodes xs) (with_same x (within x here) nodes (λ y j. j))
      ∙ ap (λ (fs : List Form). covering_with k.pairs nodes x nodes ++ fs) (from_same xs (λ y j. within y (there j)))

-- What is printed of the pairs that the others do not imply is what is printed of the order.
pub covered_are : (k : Skeleton) → IsSound k → (pairs joint covers : List OrderPair) (entries : List Entry) (ns : List Node) → pairs ≡ k.pairs → joint ≡ shared pairs → entries ≡ map (entry_of pairs) joint → covers ≡ covers_of pairs entries → ns ≡ nodes_from 0 k.strands
    → all_covered covers ns ns ≡ covering_pairs k
covered_are k sound pairs joint covers entries ns p s e c n =
    let own : entries ≡ map (entry_of k.pairs) (shared k.pairs) = e ∙ ap (map (entry_of pairs)) s ∙ ap (λ (ps : List OrderPair). map (entry_of ps) (shared ps)) p in
    let which : covers ≡ covers_of k.pairs (map (entry_of k.pairs) (shared k.pairs)) = c ∙ ap (covers_of pairs) own ∙ ap (λ (ps : List OrderPair). covers_of ps (map (entry_of k.pairs) (shared k.pairs))) p in
    ap (λ (ps : List OrderPair). all_covered ps ns ns) which
    ∙ ap (λ (all : List Node). all_covered (covers_of k.pairs (map (entry_of k.pairs) (shared k.pairs))) all all) n
    ∙ from_same k sound.skeleton.order_pairs sound.skeleton.no_cycle (nodes_from 0 k.strands) (λ x i. i)
