-- Pairs in the order of their later nodes: those that are reached stand together.
use Rattle.std.proofs.Common.{◌≡◌, ℕ, zero, suc, ◌-◌, ◌<◌, ◌≤◌, List, [], ◌∷◌, length, get_or, take, drop, Bool, true, false, not, ◌&&◌, ◌||◌, if◌then◌else◌, refl, sym, ap, ◌∙◌, arith, Less, Equal, Greater, le_of_eq}
use Rattle.std.specs.Prelude.{◌==◌, nat_le, nat_lt, Option, Some, None, cond}
use Rattle.std.specs.List.Sorted.{IsPermutation, IsSortedByKey, IsPartitionedBy, IsPartitionPoint}
use Rattle.std.specs.Ordering.{nat_cmp, ordering_then, is_lt}
use Rattle.std.specs.Cmp.{nat_cmp_total}
use Rattle.std.proofs.lemmas.Cmp.{on_total, then_total}
use Rattle.std.proofs.lemmas.List.Sorted.{IsPermutation-sym, sorted_far, ranks_by}
use Rattle.std.proofs.lemmas.Bool.Decides.{nat_tests}
use Rattle.std.proofs.lemmas.List.{take_all, length-drop}
use Rattle.cp_lists.proofs.Permuted.{in_permuted}
use Rattle.cp_model.specs.declared.node.Node.{Node}
use Rattle.cp_model.specs.declared.node.OrderPair.{OrderPair}
use Rattle.cp_model.specs.OrderTests.{at_or_after}
use Rattle.cp_order.specs.PredecessorNodes.{is_within, is_reached, reached, Tops, AreTops}
use Rattle.cp_order.specs.Sorted.{node_before, AreSorted, is_passed, first_nodes}
use Rattle.cp_order.proofs.AlongPairs.{leads_within_more}

-- ---- tests

reach_false : (t s i j : ℕ) (b : Bool) → (nat_lt t s || ((t == s) && b)) ≡ true → (((t == s) && nat_le i j) && not b) ≡ false
reach_false t s i j true h = grind (arith, nat_tests)
reach_false t s i j false h = grind (arith, nat_tests)

reach_true : (t s i j : ℕ) (b : Bool) → (nat_lt t s || ((t == s) && b)) ≡ false → ((t == s) && nat_le i j) ≡ true → (((t == s) && nat_le i j) && not b) ≡ true
reach_true t s i j true h e = grind (arith, nat_tests)
reach_true t s i j false h e = grind (arith, nat_tests)

further_on : (s i t j u k : ℕ) (b : Bool) → (nat_lt u t || ((u == t) && nat_lt k j)) ≡ false → (nat_lt t s || ((t == s) && b)) ≡ false → ((t == s) && nat_le j i) ≡ false → ((u == s) && nat_le k i) ≡ false
further_on s i t j u k true g h e = grind (arith, nat_tests)
further_on s i t j u k false g h e = grind (arith, nat_tests)

passed_none : (s t j u k : ℕ) → (nat_lt u t || ((u == t) && nat_lt k j)) ≡ false → (nat_lt u s || ((u == s) && false)) ≡ true → (nat_lt t s || ((t == s) && false)) ≡ true
passed_none s t j u k g h = grind (arith, nat_tests)

passed_some : (s t j u k n : ℕ) → (nat_lt u t || ((u == t) && nat_lt k j)) ≡ false → (nat_lt u s || ((u == s) && nat_le k n)) ≡ true → (nat_lt t s || ((t == s) && nat_le j n)) ≡ true
passed_some s t j u k n g h = grind (arith, nat_tests)

passed_before : (top : Option ℕ) (s : ℕ) (x y : Node) → node_before y x ≡ false → is_passed top s y ≡ true → is_passed top s x ≡ true
passed_before None s x y g h = passed_none s x.strand x.index y.strand y.index g h
passed_before (Some n) s x y g h = passed_some s x.strand x.index y.strand y.index n g h

pub partitioned : (top : Option ℕ) (s : ℕ) (ps : List OrderPair) → AreSorted ps → IsPartitionedBy (λ p. is_passed top s p.later) ps
partitioned top s ps up i j d le lt h = passed_before top s (get_or ps i d).later (get_or ps j d).later (up i j d le lt) h

-- ---- what is reached stands together

module _ (top : Option ℕ) (n : Node) where
  abbrev passed : OrderPair → Bool
  passed p = is_passed top n.strand p.later

  none_further : (ps : List OrderPair) → ((i : ℕ) (d : OrderPair) → i < length ps → at_or_after (get_or ps i d).later n ≡ false) → reached top n ps ≡ []
  none_further [] h = refl
  none_further (p ∷ ps) h =
      let xs = reached top n ps in
      let first : at_or_after p.later n ≡ false = h 0 p (omega arith) in
      ap (λ b. if b && not (is_within top p.later.index) then p.earlier ∷ xs else xs) first
      ∙ none_further ps (λ i d l. h (suc i) d (omega (arith, l)))

  chosen : (p : OrderPair) (b : Bool) (xs ys : List Node) → is_passed top n.strand p.later ≡ false → at_or_after p.later n ≡ b → (b ≡ true → xs ≡ ys) → (b ≡ false → xs ≡ [])
      → (if is_reached top n p then p.earlier ∷ xs else xs) ≡ (if at_or_after p.later n then p.earlier ∷ ys else [])
  chosen p true xs ys h e f g =
      ap (λ c. if c then p.earlier ∷ xs else xs) (reach_true p.later.strand n.strand p.later.index n.index (is_within top p.later.index) h e)
      ∙ ap (λ zs. p.earlier ∷ zs) (f refl) ∙ sym (ap (λ c. if c then p.earlier ∷ ys else []) e)
  chosen p false xs ys h e f g =
      ap (λ c. if c && not (is_within top p.later.index) then p.earlier ∷ xs else xs) e ∙ g refl ∙ sym (ap (λ c. if c then p.earlier ∷ ys else []) e)

  first_together : (ps : List OrderPair) → AreSorted ps → ((i : ℕ) (d : OrderPair) → i < length ps → passed (get_or ps i d) ≡ false) → reached top n ps ≡ first_nodes n ps
  first_together [] up h = refl
  first_together (p ∷ ps) up h =
      let first : passed p ≡ false = h 0 p (omega arith) in
      let later : (i : ℕ) (d : OrderPair) → i < length ps → node_before (get_or ps i d).later p.later ≡ false = λ i d l. up 0 (suc i) d (omega arith) (omega (arith, l)) in
      chosen p (at_or_after p.later n) (reached top n ps) (first_nodes n ps) first refl
      (λ e. first_together ps (λ i j d l m. up (suc i) (suc j) d (omega (arith, l)) (omega (arith, m))) (λ i d l. h (suc i) d (omega (arith, l))))
      (λ e. none_further ps (λ i d l. further_on n.strand n.index p.later.strand p.later.index (get_or ps i d).later.strand (get_or ps i d).later.index (is_within top p.later.index) (later i d l) first e))

  together : (k : ℕ) (ps : List OrderPair) → AreSorted ps → ((i : ℕ) (d : OrderPair) → i < k → passed (get_or ps i d) ≡ true) → ((i : ℕ) (d : OrderPair) → k ≤ i → i < length ps → passed (get_or ps i d) ≡ false)
      → reached top n ps ≡ first_nodes n (drop k ps)
  together zero ps up f g = first_together ps up (λ i d l. g i d (omega arith) l)
  together (suc k) [] up f g = refl
  together (suc k) (p ∷ ps) up f g =
      let xs = reached top n ps in
      ap (λ c. if c then p.earlier ∷ xs else xs) (reach_false p.later.strand n.strand p.later.index n.index (is_within top p.later.index) (f 0 p (omega arith)))
      ∙ together k ps (λ i j d l m. up (suc i) (suc j) d (omega (arith, l)) (omega (arith, m))) (λ i d l. f (suc i) d (omega (arith, l))) (λ i d l m. g (suc i) d (omega (arith, l)) (omega (arith, m)))

pub reached-together : (top : Option ℕ) (n : Node) (ps : List OrderPair) → AreSorted ps → (k : ℕ)
    → IsPartitionPoint (λ p. is_passed top n.strand p.later ≡ true) (λ p. is_passed top n.strand p.later ≡ false) ps k
    → first_nodes n (take (length ps - k) (drop k ps)) ≡ reached top n ps
reached-together top n ps up k point =
    ap (λ qs. first_nodes n qs) (take_all (length ps - k) (drop k ps) (le_of_eq (length-drop k ps)))
    ∙ sym (together top n k ps up (λ i d l. point.0 i d (omega arith) l) (λ i d l m. point.1 i d l m))

-- ---- what sorting gives

order_test : (l m k e : Bool) → is_lt (ordering_then (cond l Less (cond m Equal Greater)) (cond k Less (cond e Equal Greater))) ≡ (l || (m && k))
order_test true m k e = refl
order_test false true true e = refl
order_test false true false true = refl
order_test false true false false = refl
order_test false false k e = refl

abbrev pub key_of : OrderPair → ℕ × ℕ
key_of p = (p.later.strand, p.later.index)

pub sorted-by-key : (ps : List OrderPair) → IsSortedByKey key_of (λ x y. ordering_then (nat_cmp x.0 y.0) (nat_cmp x.1 y.1)) ps → AreSorted ps
sorted-by-key ps up i j d le lt =
    let x = key_of (get_or ps j d) in
    let y = key_of (get_or ps i d) in
    sym (order_test (nat_lt x.0 y.0) (x.0 == y.0) (nat_lt x.1 y.1) (x.1 == y.1))
    ∙ sorted_far (λ p q. is_lt (ordering_then (nat_cmp (key_of p).0 (key_of q).0) (nat_cmp (key_of p).1 (key_of q).1)))
    (ranks_by (then_total (on_total (λ (p : ℕ × ℕ). p.0) nat_cmp_total) (on_total (λ (p : ℕ × ℕ). p.1) nat_cmp_total)) key_of) ps up i j d le lt

-- ---- the order of the pairs does not matter

pub tops-permuted : (ps qs : List OrderPair) (y : Node) (tops : Tops) → IsPermutation ps qs → AreTops qs y tops → AreTops ps y tops
tops-permuted ps qs y tops h t x =
    let into = λ (p : OrderPair). in_permuted ps qs p h in
    let back = λ (p : OrderPair). in_permuted qs ps p (IsPermutation-sym ps qs h) in
    (λ b. leads_within_more qs ps back x y ((t x).0 b), λ l. (t x).1 (leads_within_more ps qs into x y l))
