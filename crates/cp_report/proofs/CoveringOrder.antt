-- The covering pairs of an order without cycles are among its pairs, and generate the same order between nodes.
use Rattle.std.proofs.Common.{◌≡◌, ◌⊎◌, inl, inr, ℕ, zero, suc, ◌<◌, ◌≤◌, ◌&&◌, ◌==◌, List, [], ◌∷◌, length, Bool, true, false, refl, sym, ap, ◌∙◌, subst, arith, if◌then◌else◌}
use Rattle.std.specs.Prelude.{not, nat_le, ◌||◌}
use Rattle.std.proofs.lemmas.Bool.{false_from_ne_true, both_ways, cases_Bool, and_parts, and_from, or_cases, eq-eqb, eqb-true, not-true}
use Rattle.std.proofs.lemmas.Bool.Decides.{nat_tests}
use Rattle.cp_lists.specs.Lists.{IsIn, here, there}
use Rattle.cp_model.specs.declared.node.Node.{Node}
use Rattle.cp_model.specs.declared.node.OrderPair.{OrderPair}
use Rattle.cp_model.specs.Order.{IsAtOrAfter, ReachesAlong, on_strand, over_pair}
use Rattle.cp_model.specs.OrderTests.{reaches_within}
use Rattle.cp_model.specs.Same.{same_node}
use Rattle.cp_model.proofs.SameTests.{node_is, is_node}
use Rattle.cp_model.proofs.BoundedSearch.{after_leads, leads_both}
use Rattle.cp_language.proofs.BoundedSearch.{reaches_all}
use Rattle.cp_language.specs.Report.{is_before, any_node, is_covering}

-- ---- counting

-- How many of the nodes pass the test.
abbrev pub counted : (Node → Bool) → List Node → ℕ
counted test [] = 0
counted test (n ∷ ns) = if test n then suc (counted test ns) else counted test ns

counted_in : (test : Node → Bool) (n : Node) (ns : List Node) → test n ≡ true → counted test (n ∷ ns) ≡ suc (counted test ns)
counted_in test n ns e = ap (λ (b : Bool). if b then suc (counted test ns) else counted test ns) e

counted_out : (test : Node → Bool) (n : Node) (ns : List Node) → test n ≡ false → counted test (n ∷ ns) ≡ counted test ns
counted_out test n ns e = ap (λ (b : Bool). if b then suc (counted test ns) else counted test ns) e

-- What one test lets through the other does too.
abbrev IsWithin : (Node → Bool) → (Node → Bool) → List Node → Type 0
IsWithin a b ns = (n : Node) → IsIn n ns → a n ≡ true → b n ≡ true

at_most : (a b : Node → Bool) (ns : List Node) → IsWithin a b ns → counted a ns ≤ counted b ns
at_most a b [] w = omega arith
at_most a b (n ∷ ns) w = by (cases_Bool (a n)) (cases_Bool (b n)) (at_most a b ns (λ m i. w m (there i)))
  where
    by : (a n ≡ true) ⊎ (a n ≡ false) → (b n ≡ true) ⊎ (b n ≡ false) → counted a ns ≤ counted b ns → counted a (n ∷ ns) ≤ counted b (n ∷ ns)
    by (inl p) (inl q) l = omega (arith, counted_in a n ns p, counted_in b n ns q, l)
    by (inl p) (inr q) l = absurd (both_ways (b n) q (w n here p))
    by (inr p) (inl q) l = omega (arith, counted_out a n ns p, counted_in b n ns q, l)
    by (inr p) (inr q) l = omega (arith, counted_out a n ns p, counted_out b n ns q, l)

fewer : (a b : Node → Bool) (z : Node) (ns : List Node) → IsWithin a b ns → IsIn z ns → a z ≡ false → b z ≡ true → counted a ns < counted b ns
fewer a b z [] w i p q = elim i [ ]
fewer a b z (n ∷ ns) w here p q = omega (arith, counted_out a z ns p, counted_in b z ns q, at_most a b ns (λ m j. w m (there j)))
fewer a b z (n ∷ ns) w (there i) p q = by (cases_Bool (a n)) (cases_Bool (b n)) (fewer a b z ns (λ m j. w m (there j)) i p q)
  where
    by : (a n ≡ true) ⊎ (a n ≡ false) → (b n ≡ true) ⊎ (b n ≡ false) → counted a ns < counted b ns → counted a (n ∷ ns) < counted b (n ∷ ns)
    by (inl r) (inl s) l = omega (arith, counted_in a n ns r, counted_in b n ns s, l)
    by (inl r) (inr s) l = absurd (both_ways (b n) s (w n here r))
    by (inr r) (inl s) l = omega (arith, counted_out a n ns r, counted_in b n ns s, l)
    by (inr r) (inr s) l = omega (arith, counted_out a n ns r, counted_out b n ns s, l)

any_found : (test : Node → Bool) (ns : List Node) → any_node test ns ≡ true → (z : Node) × IsIn z ns × (test z ≡ true)
any_found test [] e = absurd (cc)
any_found test (n ∷ ns) e = elim (or_cases (test n) (any_node test ns) e) as (λ _. (z : Node) × IsIn z (n ∷ ns) × (test z ≡ true)) [
  | inl h ↦ (n, here, h)
  | inr h ↦ let r = any_found test ns h in (r.0, there r.1, r.2)
]

any_there : (test : Node → Bool) (ns : List Node) (z : Node) → IsIn z ns → test z ≡ true → any_node test ns ≡ false → ⊥
any_there test [] z i h e = elim i [ ]
any_there test (n ∷ ns) z here h e = both_ways (any_node test (z ∷ ns)) e (ap (λ (b : Bool). b || any_node test ns) h)
any_there test (n ∷ ns) z (there i) h e = any_there test ns z i h (behind (cases_Bool (test n)))
  where
    behind : (test n ≡ true) ⊎ (test n ≡ false) → any_node test ns ≡ false
    behind (inl p) = absurd (both_ways (any_node test (n ∷ ns)) e (ap (λ (b : Bool). b || any_node test ns) p))
    behind (inr p) = sym (ap (λ (b : Bool). b || any_node test ns) p) ∙ e

pub three_parts : (a b c : Bool) → (a && b && c) ≡ true → (a ≡ true) × (b ≡ true) × (c ≡ true)
three_parts true true c h = (refl, refl, h)
three_parts true false c h = absurd (cc)
three_parts false b c h = absurd (cc)

pub all_three : (a b c : Bool) → a ≡ true → b ≡ true → c ≡ true → (a && b && c) ≡ true
all_three true true c p q r = r
all_three true false c p q r = absurd (cc)
all_three false b c p q r = absurd (cc)

-- ---- an order without cycles

-- Two of these nodes that reach each other are one.
abbrev pub IsAntisymmetric : List OrderPair → List Node → Type 0
IsAntisymmetric pairs nodes = (x y : Node) → IsIn x nodes → IsIn y nodes → ReachesAlong pairs x y → ReachesAlong pairs y x → x ≡ y

-- What reaches one of these nodes is one of them.
abbrev pub IsClosedBack : List OrderPair → List Node → Type 0
IsClosedBack pairs nodes = (x y : Node) → ReachesAlong pairs x y → IsIn y nodes → IsIn x nodes

at_itself : (x : Node) → IsAtOrAfter x x
at_itself x = (refl, omega arith)

module _ (pairs : List OrderPair) (nodes : List Node) (antisymmetric : IsAntisymmetric pairs nodes) (closed : IsClosedBack pairs nodes) where
  pub before_parts : (x y : Node) → is_before pairs x y ≡ true → ReachesAlong pairs x y × (x ≡ y → ⊥)
  before_parts x y h =
      let two = and_parts (not (same_node x y)) (reaches_within (length pairs) pairs x y) h in
      ((reaches_all pairs x y).0 two.1, λ e. both_ways (not (same_node x y)) (ap not (is_node x y e)) two.0)

  before_from : (x y : Node) → ReachesAlong pairs x y → (x ≡ y → ⊥) → is_before pairs x y ≡ true
  before_from x y l other =
      and_from (not (same_node x y)) (reaches_within (length pairs) pairs x y) (ap not (false_from_ne_true (same_node x y) (λ h. other (node_is x y h)))) ((reaches_all pairs x y).1 l)

  before_on : (x y z : Node) → IsIn x nodes → IsIn y nodes → is_before pairs x y ≡ true → is_before pairs y z ≡ true → is_before pairs x z ≡ true
  before_on x y z i j p q =
      let f = before_parts x y p in
      let s = before_parts y z q in
      before_from x z (leads_both pairs x y z f.0 s.0) (λ e. f.1 (antisymmetric x y i j f.0 (subst (λ (o : Node). ReachesAlong pairs y o) (sym e) s.0)))

  not_itself : (z : Node) → is_before pairs z z ≡ false
  not_itself z = false_from_ne_true (is_before pairs z z) (λ h. (before_parts z z h).1 refl)

  -- z stands between x and y.
  abbrev is_between : Node → Node → Node → Bool
  is_between x y z = is_before pairs x z && is_before pairs z y

  -- on one strand the order goes up
  goes_up : (x y : Node) → IsIn x nodes → IsIn y nodes → ReachesAlong pairs x y → x.strand ≡ y.strand → IsAtOrAfter x y
  goes_up x y i j l e = by (nat_le x.index y.index) refl
    where
      by : (b : Bool) → nat_le x.index y.index ≡ b → IsAtOrAfter x y
      by true h = (e, grind (arith, nat_tests))
      by false h =
          let back : y.index ≤ x.index = grind (arith, nat_tests) in
          subst (λ (z : Node). IsAtOrAfter x z) (antisymmetric x y i j l (on_strand (sym e, back))) (at_itself x)

  -- fewer nodes stand between x and z, and between z and y, where z stands between x and y
  fewer_in_front : (x y z : Node) → IsIn x nodes → IsIn z nodes → is_between x y z ≡ true → counted (is_between x z) nodes < counted (is_between x y) nodes
  fewer_in_front x y z i k h =
      let two = and_parts (is_before pairs x z) (is_before pairs z y) h in
      fewer (is_between x z) (is_between x y) z nodes
      (λ w m g. let parts = and_parts (is_before pairs x w) (is_before pairs w z) g in and_from (is_before pairs x w) (is_before pairs w y) parts.0 (before_on w z y m k parts.1 two.1)) k
      (ap (λ b. b && is_before pairs z z) two.0 ∙ not_itself z) h

  fewer_behind : (x y z : Node) → IsIn x nodes → IsIn z nodes → is_between x y z ≡ true → counted (is_between z y) nodes < counted (is_between x y) nodes
  fewer_behind x y z i k h =
      let first : is_before pairs x z ≡ true = (and_parts (is_before pairs x z) (is_before pairs z y) h).0 in
      fewer (is_between z y) (is_between x y) z nodes
      (λ w m g. let parts = and_parts (is_before pairs z w) (is_before pairs w y) g in and_from (is_before pairs x w) (is_before pairs w y) (before_on x z w i k first parts.0) parts.1) k
      (ap (λ b. b && is_before pairs z y) (not_itself z)) h

  -- ---- covering pairs reach as far

  module _ (covers : List OrderPair) (listed : (x y : Node) → IsIn x nodes → IsIn y nodes → is_covering pairs nodes x y ≡ true → IsIn (record { earlier = x; later = y }) covers) where
    step : (n : ℕ) (x y : Node) → counted (is_between x y) nodes < suc n → ReachesAlong pairs x y → IsIn y nodes
        → ((a b : Node) → counted (is_between a b) nodes < n → ReachesAlong pairs a b → IsIn b nodes → ReachesAlong covers a b) → ReachesAlong covers x y
    step n x y less l m rest = by_strand (cases_Bool (x.strand == y.strand))
      where
        i : IsIn x nodes
        i = closed x y l m

        through : ((z : Node) × IsIn z nodes × (is_between x y z ≡ true)) → ReachesAlong covers x y
        through (z, k, h) =
            let two = and_parts (is_before pairs x z) (is_before pairs z y) h in
            let front : counted (is_between x z) nodes < n = omega (arith, fewer_in_front x y z i k h, less) in
            let back : counted (is_between z y) nodes < n = omega (arith, fewer_behind x y z i k h, less) in
            leads_both covers x z y (rest x z front (before_parts x z two.0).0 k) (rest z y back (before_parts z y two.1).0 m)

        directly : (x.strand == y.strand) ≡ false → any_node (is_between x y) nodes ≡ false → ReachesAlong covers x y
        directly e none =
            let before : is_before pairs x y ≡ true = before_from x y l (λ p. both_ways (x.strand == y.strand) e (eq-eqb x.strand y.strand (ap (λ (o : Node). o.strand) p))) in
            let covering : is_covering pairs nodes x y ≡ true = all_three (not (x.strand == y.strand)) (is_before pairs x y) (not (any_node (is_between x y) nodes)) (ap not e) before (ap not none) in
            over_pair (listed x y i m covering) (at_itself x) (on_strand (at_itself y))

        by_between : (x.strand == y.strand) ≡ false → (any_node (is_between x y) nodes ≡ true) ⊎ (any_node (is_between x y) nodes ≡ false) → ReachesAlong covers x y
        by_between e (inl some) = through (any_found (is_between x y) nodes some)
        by_between e (inr none) = directly e none

        by_strand : ((x.strand == y.strand) ≡ true) ⊎ ((x.strand == y.strand) ≡ false) → ReachesAlong covers x y
        by_strand (inl e) = on_strand (goes_up x y i m l (eqb-true x.strand y.strand e))
        by_strand (inr e) = by_between e (cases_Bool (any_node (is_between x y) nodes))

    covered_within : (n : ℕ) (x y : Node) → counted (is_between x y) nodes < n → ReachesAlong pairs x y → IsIn y nodes → ReachesAlong covers x y
    covered_within zero x y less l m = absurd (omega arith)
    covered_within (suc n) x y less l m = step n x y less l m (covered_within n)

    -- What reaches a node along the pairs reaches it along the covering pairs.
    pub covers_lead : (x y : Node) → ReachesAlong pairs x y → IsIn y nodes → ReachesAlong covers x y
    covers_lead x y l m = covered_within (suc (counted (is_between x y) nodes)) x y (omega arith) l m

  -- And what reaches it along covering pairs does so along the pairs.
  pub lead_back : (covers : List OrderPair) → ((p : OrderPair) → IsIn p covers → ReachesAlong pairs p.earlier p.later) → (x y : Node) → ReachesAlong covers x y → ReachesAlong pairs x y
  lead_back covers only x y (on_strand a) = on_strand a
  lead_back covers only x y (over_pair {p} m a l) = after_leads pairs x p.earlier y a (leads_both pairs p.earlier p.later y (only p m) (lead_back covers only p.later y l))

  pub covering_leads : (x y : Node) → is_covering pairs nodes x y ≡ true → ReachesAlong pairs x y
  covering_leads x y h = (before_parts x y (three_parts (not (x.strand == y.strand)) (is_before pairs x y) (not (any_node (is_between x y) nodes)) h).1).0

  pub covering_apart : (x y : Node) → is_covering pairs nodes x y ≡ true → (x.strand == y.strand) ≡ false
  covering_apart x y h = not-true (x.strand == y.strand) (three_parts (not (x.strand == y.strand)) (is_before pairs x y) (not (any_node (is_between x y) nodes)) h).0

  -- ---- a covering pair is one of the pairs

  module _ (apart : (p : OrderPair) → IsIn p pairs → p.earlier.strand ≡ p.later.strand → ⊥) where
    pub covering_listed : (x y : Node) → IsIn y nodes → is_covering pairs nodes x y ≡ true → IsIn (record { earlier = x; later = y }) pairs
    covering_listed x y m h = by_way (covering_leads x y h)
      where
        differ : x.strand ≡ y.strand → ⊥
        differ e = both_ways (x.strand == y.strand) (covering_apart x y h) (eq-eqb x.strand y.strand e)

        none : any_node (is_between x y) nodes ≡ false
        none = not-true (any_node (is_between x y) nodes) (three_parts (not (x.strand == y.strand)) (is_before pairs x y) (not (any_node (is_between x y) nodes)) h).2

        -- no other node stands on the way
        nothing : (z : Node) → ReachesAlong pairs x z → ReachesAlong pairs z y → (x ≡ z → ⊥) → (z ≡ y → ⊥) → ⊥
        nothing z f s p q =
            any_there (is_between x y) nodes z (closed z y s m) (and_from (is_before pairs x z) (is_before pairs z y) (before_from x z f p) (before_from z y s q)) none

        over : (p : OrderPair) → IsIn p pairs → IsAtOrAfter x p.earlier → ReachesAlong pairs p.later y → IsIn (record { earlier = x; later = y }) pairs
        over p k a l = subst (λ (q : OrderPair). IsIn q pairs) (λ i. record { earlier = sym first i; later = last i }) k
          where
            later_there : IsIn p.later nodes
            later_there = closed p.later y l m

            goes_over : ReachesAlong pairs p.earlier p.later
            goes_over = over_pair k (at_itself p.earlier) (on_strand (at_itself p.later))

            earlier_there : IsIn p.earlier nodes
            earlier_there = closed p.earlier p.later goes_over later_there

            -- the way over the pair does not come back
            no_return : x ≡ p.later → ⊥
            no_return e =
                apart p k (ap (λ (o : Node). o.strand) (antisymmetric p.earlier p.later earlier_there later_there goes_over (subst (λ (o : Node). ReachesAlong pairs o p.earlier) e (on_strand a))))

            first : x ≡ p.earlier
            first = by (cases_Bool (same_node x p.earlier))
              where
                by : (same_node x p.earlier ≡ true) ⊎ (same_node x p.earlier ≡ false) → x ≡ p.earlier
                by (inl e) = node_is x p.earlier e
                by (inr e) =
                    absurd (nothing p.earlier (on_strand a) (over_pair k (at_itself p.earlier) l) (λ q. both_ways (same_node x p.earlier) e (is_node x p.earlier q))
                    (λ q. differ (a.0 ∙ ap (λ (o : Node). o.strand) q)))

            last : p.later ≡ y
            last = by (cases_Bool (same_node p.later y))
              where
                by : (same_node p.later y ≡ true) ⊎ (same_node p.later y ≡ false) → p.later ≡ y
                by (inl e) = node_is p.later y e
                by (inr e) = absurd (nothing p.later (over_pair k a (on_strand (at_itself p.later))) l no_return (λ q. both_ways (same_node p.later y) e (is_node p.later y q)))

        by_way : ReachesAlong pairs x y → IsIn (record { earlier = x; later = y }) pairs
        by_way (on_strand a) = absurd (differ a.0)
        by_way (over_pair {p} k a l) = over p k a l
