-- Pairs that have no cycle.
use Rattle.std.proofs.Common.{◌≡◌, ◌⊎◌, inl, inr, ℕ, ◌+◌, ◌<◌, ◌≤◌, List, [], ◌∷◌, ◌++◌, length, get_or, map, take, drop, Bool, true, false, ◌||◌, if◌then◌else◌, length-append, sym, ap, ◌∙◌, subst, arith}
use Rattle.std.specs.Prelude.{Option, None, Some, nat_le, nat_lt}
use Rattle.std.specs.List.Sorted.{IsPermutation}
use Rattle.std.proofs.lemmas.Bool.{cond-false, ltb-true, false_from_ne_true}
use Rattle.std.proofs.lemmas.List.{append_assoc, get_or_default}
use Rattle.cp_lists.proofs.Permuted.{in_permuted}
use Rattle.cp_lists.proofs.Members.{drop_read, in_append_left, in_append_right, from_map, into_map, done_or_none}
use Rattle.cp_lists.specs.Lists.{IsIn, here, there}
use Rattle.cp_lists.proofs.Fronts.{in_longer_front, in_front}
use Rattle.cp_model.specs.declared.node.Node.{Node}
use Rattle.cp_model.specs.declared.node.OrderPair.{OrderPair}
use Rattle.cp_model.specs.Order.{IsAtOrAfter, ReachesAlong, on_strand, over_pair}
use Rattle.cp_sexpr.specs.Syntax.{Form}
use Rattle.cp_sexpr.specs.View.{view}
use Rattle.cp_sexpr.specs.declared.form.Form as program
use Rattle.cp_language.specs.Problems.{on_one_strand, at_or_after, any_pair, reaches_within, closes_cycle, node_of, pair_of_nodes, option_node, first_form, second_form, pair_of, pairs_in, between_strands}
use Rattle.cp_language.specs.Roles.{list_items}
use Rattle.cp_language.proofs.BoundedSearch.{reaches_all}
use Rattle.cp_order.specs.PredecessorNodes.{Tops, is_under_tops}
use Rattle.cp_order.proofs.AlongPairs.{leads_within_more}
use Rattle.cp_load.specs.Acyclic.{IsAcyclic, IsAcyclicIf, IsAcyclicUpTo, IsSwept, pair_of_items, pairs_of_item, pairs_stated}
use Rattle.cp_model.proofs.BoundedSearch.{none_in}
use Rattle.cp_load.proofs.Cycles.{not_after, stays_behind}

-- ---- some of the pairs

some_acyclic : (ps qs : List OrderPair) → ((p : OrderPair) → IsIn p ps → IsIn p qs) → IsAcyclic qs → IsAcyclic ps
some_acyclic ps qs f h p m l = h p (f p m) (leads_within_more ps qs f p.later p.earlier l)

pub acyclic-within : (b : Bool) (ps qs : List OrderPair) → ((p : OrderPair) → IsIn p ps → IsIn p qs) → IsAcyclicIf b qs → IsAcyclicIf b ps
acyclic-within b ps qs f h e = some_acyclic ps qs f (h e)

-- ---- the first so many of the pairs

front_up_to : (n : ℕ) (ps rs whole : List OrderPair) → ps ++ rs ≡ whole → IsAcyclicUpTo n whole → IsAcyclicUpTo n ps
front_up_to n ps rs whole e = some_acyclic (take n ps) (take n whole) (λ p m. subst (λ qs. IsIn p (take n qs)) e (in_longer_front n ps rs m))

front_acyclic : (n : ℕ) (ps rs whole : List OrderPair) → length ps ≤ n → ps ++ rs ≡ whole → IsAcyclicUpTo n whole → IsAcyclic ps
front_acyclic n ps rs whole h e = some_acyclic ps (take n whole) (λ p m. subst (λ qs. IsIn p (take n qs)) e (in_front n ps rs h m))

one_at_most : (o : Option OrderPair) → length (between_strands o) ≤ 1
one_at_most None = omega arith
one_at_most (Some p) = by_test (on_one_strand p)
  where
    by_test : (b : Bool) → length (if b then [] else p ∷ []) ≤ 1
    by_test true = omega arith
    by_test false = omega arith

one_more_at_most : (before : List OrderPair) (f : Form) (n : ℕ) (b : Bool) → b ≡ nat_lt (length before) n → b ≡ true → length (before ++ pair_of f) ≤ n
one_more_at_most before f n b is e =
    let one = one_at_most (pair_of_nodes (option_node (first_form (list_items f))) (option_node (second_form (list_items f)))) in
    let below : length before < n = ltb-true (length before) n (sym is ∙ e) in
    omega (arith, one, below, length-append {A = OrderPair})

module _ (items : List program.Form) (k : ℕ) (f : program.Form) (lt : k < length items) (is : f ≡ get_or items k f) (before whole : List OrderPair) where
  left_over : before ++ pairs_in (map view (drop k items)) ≡ whole → (before ++ pair_of (view f)) ++ pairs_in (map view (drop (k + 1) items)) ≡ whole
  left_over h = append_assoc before (pair_of (view f)) (pairs_in (map view (drop (k + 1) items))) ∙ sym (ap (λ gs. before ++ pairs_in (map view gs)) (drop_read items k f lt is)) ∙ h

  -- the first of the pairs that are left, behind those before, where all have no cycle
  pub first-pair : (b : Bool) → before ++ pairs_in (map view (drop k items)) ≡ whole → IsAcyclicIf b whole → IsAcyclicIf b (before ++ pair_of (view f))
  first-pair b h =
      acyclic-within b (before ++ pair_of (view f)) whole (λ p m. subst (IsIn p) (left_over h) (in_append_left (pairs_in (map view (drop (k + 1) items))) m))

  -- the same, where the first so many have none
  pub counted-pair : (n : ℕ) (b : Bool) → b ≡ nat_lt (length before) n → before ++ pairs_in (map view (drop k items)) ≡ whole → IsAcyclicUpTo n whole → IsAcyclicIf b (before ++ pair_of (view f))
  counted-pair n b below h a e =
      front_acyclic n (before ++ pair_of (view f)) (pairs_in (map view (drop (k + 1) items))) whole (one_more_at_most before (view f) n b below e) (left_over h) a

  split : before ++ pairs_stated (map view (drop k items)) ≡ whole → (before ++ pairs_of_item (view f)) ++ pairs_stated (map view (drop (k + 1) items)) ≡ whole
  split h = append_assoc before (pairs_of_item (view f)) (pairs_stated (map view (drop (k + 1) items))) ∙ sym (ap (λ gs. before ++ pairs_stated (map view gs)) (drop_read items k f lt is)) ∙ h

  pub first-item : (n : ℕ) → before ++ pairs_stated (map view (drop k items)) ≡ whole → IsAcyclicUpTo n whole → IsAcyclicUpTo n (before ++ pairs_of_item (view f))
  first-item n h = front_up_to n (before ++ pairs_of_item (view f)) (pairs_stated (map view (drop (k + 1) items))) whole (split h)

  pub items-stated : (after : List OrderPair) → after ≡ before ++ pairs_of_item (view f) → before ++ pairs_stated (map view (drop k items)) ≡ whole → after ++ pairs_stated (map view (drop (k + 1) items)) ≡ whole
  items-stated after e h = ap (λ ps. ps ++ pairs_stated (map view (drop (k + 1) items))) e ∙ split h

-- ---- a pair that closes no cycle

pub known-acyclic : (before : List OrderPair) (p : OrderPair) (b : Bool) → on_one_strand p ≡ false → b ≡ true → IsAcyclicIf b (before ++ between_strands (Some p)) → false ≡ closes_cycle before p
known-acyclic before p b other e h =
    let all : IsAcyclicIf b (before ++ p ∷ []) = subst (λ c. IsAcyclicIf b (before ++ (if c then [] else p ∷ []))) other h in
    sym
    (false_from_ne_true (reaches_within (length before) before p.later p.earlier)
    (λ r. all e p (in_append_right before here) (leads_within_more before (before ++ p ∷ []) (λ q m. in_append_left (p ∷ []) m) p.later p.earlier ((reaches_all before p.later p.earlier).0 r))))
    ∙ sym (cond-false (on_one_strand p) (nat_le p.later.index p.earlier.index) (reaches_within (length before) before p.later p.earlier) other)

-- the pair of the first two items
pub pair-in-front : (b : Bool) (before : List OrderPair) (items : List program.Form) (f g : program.Form) → 2 ≤ length items → f ≡ get_or items 0 f → g ≡ get_or items 1 g
    → IsAcyclicIf b (before ++ pair_of_items (map view items)) → IsAcyclicIf b (before ++ between_strands (pair_of_nodes (node_of (view f)) (node_of (view g))))
pair-in-front b before [] f g l e i h = absurd (omega arith)
pair-in-front b before (x ∷ []) f g l e i h = absurd (omega arith)
pair-in-front b before (x ∷ y ∷ items) f g l e i h =
    subst (λ k. IsAcyclicIf b (before ++ between_strands (pair_of_nodes (node_of (view k)) (node_of (view g))))) (sym e)
    (subst (λ k. IsAcyclicIf b (before ++ between_strands (pair_of_nodes (node_of (view x)) (node_of (view k))))) (sym i) h)

-- ---- one pair after another, none of which ends where one before it begins

or_swap : (b c d : Bool) → d ≡ (b || c) → d ≡ (c || b)
or_swap true true d e = e
or_swap true false d e = e
or_swap false true d e = e
or_swap false false d e = e

module _ (done : List OrderPair) (p : OrderPair) (none : any_pair (λ q. at_or_after p.later q.earlier) (p ∷ done) ≡ false) where
  never_after : (q : OrderPair) → IsIn q (p ∷ done) → IsAtOrAfter p.later q.earlier → ⊥
  never_after q m a = not_after p.later.strand q.earlier.strand p.later.index q.earlier.index (none_in (λ r. at_or_after p.later r.earlier) (p ∷ done) q none m) a

  -- a path over the new pair goes no further than its later node's strand
  without : (x y : Node) → ReachesAlong (p ∷ done) x y → ReachesAlong done x y ⊎ IsAtOrAfter p.later y
  without x y (on_strand a) = inl (on_strand a)
  without x y (over_pair here a l) = inr (stays_behind (p ∷ done) p.later y none l)
  without x y (over_pair {p = q} (there m) a l) = elim (without q.later y l) as (λ _. ReachesAlong done x y ⊎ IsAtOrAfter p.later y) [
    | inl k ↦ inl (over_pair m a k)
    | inr k ↦ inr k
  ]

  one_more : IsAcyclic done → IsAcyclic (p ∷ done)
  one_more h q here l = never_after p here (stays_behind (p ∷ done) p.later p.earlier none l)
  one_more h q (there m) l = elim (without q.later q.earlier l) as (λ _. ⊥) [
    | inl k ↦ h q m k
    | inr k ↦ never_after q (there m) k
  ]

pub swept-first : (all : List OrderPair) (tops : Tops) → ((x : Node) → is_under_tops tops x ≡ false) → IsSwept all all [] tops
swept-first all tops none = record {
  acyclic = λ p m l. elim m [ ];
  tops_are = none;
  each = λ p m. inr m;
}

module _ (all rest more done : List OrderPair) (old new : Tops) (p : OrderPair) (left : rest ≡ p ∷ more) (s : IsSwept all rest done old)
    (raised : (x : Node) → is_under_tops new x ≡ (is_under_tops old x || at_or_after x p.earlier)) where
  raised_tops : (x : Node) → is_under_tops new x ≡ any_pair (λ q. at_or_after x q.earlier) (p ∷ done)
  raised_tops x = or_swap (any_pair (λ q. at_or_after x q.earlier) done) (at_or_after x p.earlier) (is_under_tops new x) (raised x ∙ ap (λ b. b || at_or_after x p.earlier) (s.tops_are x))

  one_of : (q : OrderPair) → IsIn q (p ∷ more) → IsIn q (p ∷ done) ⊎ IsIn q more
  one_of q here = inl here
  one_of q (there m) = inr m

  pub swept-next : is_under_tops new p.later ≡ false → IsSwept all more (p ∷ done) new
  swept-next h = record {
    acyclic = one_more done p (sym (raised_tops p.later) ∙ h) s.acyclic;
    tops_are = raised_tops;
    each = λ q m. elim (s.each q m) as (λ _. IsIn q (p ∷ done) ⊎ IsIn q more) [
      | inl i ↦ inl (there i)
      | inr i ↦ one_of q (subst (IsIn q) left i)
    ];
  }

pub swept-step : {A : Type 0} (f : A → OrderPair) (xs : List A) (k : ℕ) (d : A) (old new : Tops) → k < length xs → (done : List OrderPair) × IsSwept (map f xs) (map f (drop k xs)) done old
    → ((x : Node) → is_under_tops new x ≡ (is_under_tops old x || at_or_after x (f (get_or xs k d)).earlier)) → is_under_tops new (f (get_or xs k d)).later ≡ false
    → (done : List OrderPair) × IsSwept (map f xs) (map f (drop (k + 1) xs)) done new
swept-step f xs k d old new h s raised e =
    let x = get_or xs k d in
    (f x ∷ s.0, swept-next (map f xs) (map f (drop k xs)) (map f (drop (k + 1) xs)) s.0 old new (f x) (ap (map f) (drop_read xs k x h (get_or_default xs k d x h))) s.1 raised e)

pub swept-all : (all rest done : List OrderPair) (tops : Tops) → rest ≡ [] → IsSwept all rest done tops → IsAcyclic all
swept-all all rest done tops e s = some_acyclic all done (λ p m. done_or_none done (subst (λ ps. IsIn p done ⊎ IsIn p ps) e (s.each p m))) s.acyclic

-- ---- the pairs in another order

pub each-permuted : {A : Type 0} (f : A → OrderPair) (xs ys : List A) (ps : List OrderPair) → IsPermutation xs ys → map f xs ≡ ps → (p : OrderPair) → IsIn p ps → IsIn p (map f ys)
each-permuted f xs ys ps h e p m =
    let found = from_map f xs (subst (IsIn p) (sym e) m) in
    subst (λ q. IsIn q (map f ys)) found.2 (into_map f (in_permuted xs ys found.0 h found.1))
