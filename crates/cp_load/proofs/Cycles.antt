-- The faults of pairs, part by part.
use Rattle.std.proofs.Common.{◌≡◌, ℕ, ◌+◌, ◌-◌, ◌<◌, ◌≤◌, List, [], ◌∷◌, ◌++◌, length, get_or, map, take, drop, Bool, true, false, ◌&&◌, refl, sym, ap, ◌∙◌, subst, arith}
use Rattle.std.specs.Prelude.{◌↔◌, ◌==◌, Option, Some, None, is_none, nat_le, if◌then◌else◌}
use Rattle.std.proofs.lemmas.Bool.{cond-false, false_from_ne_true}
use Rattle.std.proofs.lemmas.Bool.Decides.{nat_tests, same_from_decides}
use Rattle.std.proofs.lemmas.List.{take_all, append_assoc}
use Rattle.cp_lists.proofs.Members.{drop_read}
use Rattle.cp_base.specs.declared.place.Place.{Place}
use Rattle.cp_base.specs.declared.place.Code.{Code}
use Rattle.cp_base.specs.declared.place.Code.TheVariants.{BadShape, BadNode, CyclicOrder}
use Rattle.cp_base.specs.declared.place.Refusal.{Refusal}
use Rattle.cp_model.specs.Skeleton.{SkeletonStrand, term_event_at}
use Rattle.cp_model.specs.declared.node.OrderPair.{OrderPair}
use Rattle.cp_model.specs.declared.node.Node.{Node}
use Rattle.cp_model.specs.Order.{IsAtOrAfter, ReachesAlong, on_strand, over_pair}
use Rattle.cp_model.proofs.BoundedSearch.{none_in}
use Rattle.cp_sexpr.specs.Syntax.{Form}
use Rattle.cp_sexpr.specs.View.{view}
use Rattle.cp_sexpr.specs.declared.form.Form as program
use Rattle.cp_language.specs.Faults.{fault, fault_unless, place_of}
use Rattle.cp_language.specs.FirstFault.{refusal_before}
use Rattle.cp_language.specs.Roles.{unless_faulty, list_items}
use Rattle.cp_language.specs.Terms.{exceeds}
use Rattle.cp_language.specs.Problems.{on_one_strand, at_or_after, any_pair, reaches_within, closes_cycle, node_of, node_faults, pair_of_nodes, is_some_transmission, is_some_reception, direction_faults, order_faults, pair_items_faults, pair_faults, pair_of, pairs_in, pairs_faults}
use Rattle.cp_language.proofs.BoundedSearch.{reaches_all}
use Rattle.cp_order.specs.PredecessorNodes.{Target}
use Rattle.cp_scope.proofs.FirstOf as first
use Rattle.cp_scope.specs.FirstFault.{first_onto, merged, stands_before}
use Rattle.cp_scope.proofs.Firsts.{first_onto-append, none_found, first_then_four, merged-unless}
use Rattle.cp_load.specs.Behind.{is_behind_fault}

-- ---- cycles

-- what a search of the order found is what the order is
pub order-searched : (pairs : List OrderPair) (x y : Node) (l : Target) (b : Bool) → l ≡ record { pairs = pairs; node = y } → (b ≡ true) ↔ ReachesAlong l.pairs x l.node → b ≡ reaches_within (length pairs) pairs x y
order-searched pairs x y l b is h =
    let leads : (b ≡ true) ↔ ReachesAlong pairs x y = subst (λ (t : Target). (b ≡ true) ↔ ReachesAlong t.pairs x t.node) is h in
    same_from_decides b (reaches_within (length pairs) pairs x y) leads (reaches_all pairs x y)

pub cycle-searched : (before : List OrderPair) (p : OrderPair) (l : Target) (b : Bool) → on_one_strand p ≡ false → l ≡ record { pairs = before; node = p.earlier } → (b ≡ true) ↔ ReachesAlong l.pairs p.later l.node → b ≡ closes_cycle before p
cycle-searched before p l b other is h =
    order-searched before p.later p.earlier l b is h
    ∙ sym (cond-false (on_one_strand p) (nat_le p.later.index p.earlier.index) (reaches_within (length before) before p.later p.earlier) other)

pub not_after : (s t i j : ℕ) → ((s == t) && nat_le i j) ≡ false → (s ≡ t) × (i ≤ j) → ⊥
not_after s t i j h a = grind (arith, nat_tests)

-- No pair leaves the strand behind x: what x reaches is on its strand.
pub stays_behind : (pairs : List OrderPair) (x y : Node) → any_pair (λ p. at_or_after x p.earlier) pairs ≡ false → ReachesAlong pairs x y → IsAtOrAfter x y
stays_behind pairs x y none (on_strand a) = a
stays_behind pairs x y none (over_pair {p} m a l) =
    absurd (not_after x.strand p.earlier.strand x.index p.earlier.index (none_in (λ q. at_or_after x q.earlier) pairs p none m) a)

-- No pair comes to the strand before y: what reaches y is on its strand.
stays_before : (pairs : List OrderPair) (x y : Node) → any_pair (λ p. at_or_after p.later y) pairs ≡ false → ReachesAlong pairs x y → IsAtOrAfter x y
stays_before pairs x y none (on_strand a) = a
stays_before pairs x y none (over_pair {p} m a l) =
    absurd (not_after p.later.strand y.strand p.later.index y.index (none_in (λ q. at_or_after q.later y) pairs p none m) (stays_before pairs p.later y none l))

one_strand : (s t i j : ℕ) → (s == t) ≡ false → (t ≡ s) × (j ≤ i) → ⊥
one_strand s t i j other a = grind (arith, nat_tests)

no_way : (before : List OrderPair) (p : OrderPair) → on_one_strand p ≡ false → (ReachesAlong before p.later p.earlier → IsAtOrAfter p.later p.earlier) → false ≡ closes_cycle before p
no_way before p other stays =
    sym
    (false_from_ne_true (reaches_within (length before) before p.later p.earlier)
    (λ e. one_strand p.earlier.strand p.later.strand p.earlier.index p.later.index other (stays ((reaches_all before p.later p.earlier).0 e))))
    ∙ sym (cond-false (on_one_strand p) (nat_le p.later.index p.earlier.index) (reaches_within (length before) before p.later p.earlier) other)

pub no-way-from : (before : List OrderPair) (p : OrderPair) → on_one_strand p ≡ false → any_pair (λ q. at_or_after p.later q.earlier) before ≡ false → false ≡ closes_cycle before p
no-way-from before p other none = no_way before p other (stays_behind before p.later p.earlier none)

pub no-way-to : (before : List OrderPair) (p : OrderPair) → on_one_strand p ≡ false → any_pair (λ q. at_or_after q.later p.earlier) before ≡ false → false ≡ closes_cycle before p
no-way-to before p other none = no_way before p other (stays_before before p.later p.earlier none)

-- ---- nodes, or else their order

no_fault : (i : Option Refusal) → is_none i ≡ true → i ≡ None
no_fault None h = refl
no_fault (Some r) h = absurd (cc)

module _ (o m i k : Option Refusal) (b : Bool) (ns rs others : List Refusal) (found : m ≡ first_onto None ns) (second : i ≡ first_onto m rs) (test : b ≡ is_none i) where
  both : i ≡ first_onto None (ns ++ rs)
  both = second ∙ ap (λ x. first_onto x rs) found ∙ sym (first_onto-append None ns rs)

  pub nodes-there : b ≡ true → k ≡ first_onto o others → k ≡ first_onto o (unless_faulty (ns ++ rs) others)
  nodes-there h e = e ∙ sym (ap (λ fs. first_onto o (unless_faulty fs others)) (none_found (ns ++ rs) (sym both ∙ no_fault i (sym test ∙ h))))

  pub nodes-faulty : b ≡ false → k ≡ merged o i → k ≡ first_onto o (unless_faulty (ns ++ rs) others)
  nodes-faulty h e = merged-unless o i i k (ns ++ rs) others both (first.onto_none-not refusal_before i i others (sym test ∙ h) refl) e

-- ---- behind a fault

two_true : (b c : Bool) → (b && c) ≡ true → (b ≡ true) × (c ≡ true)
two_true true c h = (refl, h)
two_true false c h = absurd (cc)

unless_changed : (o : Option Refusal) (b : Bool) (at : Place) (code : Code) → stands_before o (record { place = at; code = code }) ≡ true → o ≡ first_onto o (fault_unless b at code)
unless_changed o true at code h = refl
unless_changed o false at code h = first.none_changed refusal_before o (record { place = at; code = code }) h

-- no fault of the order of a pair is the first then
pub behind-fault : (o : Option Refusal) (strands : List SkeletonStrand) (before : List OrderPair) (at : Place) (f g : Form) (p : Option OrderPair) → is_behind_fault o at f g ≡ true
    → o ≡ first_onto o (order_faults strands before at f g p)
behind-fault o strands before at f g None h = refl
behind-fault o strands before at f g (Some p) h = by_cycle (closes_cycle before p)
  where
    cyclic : Refusal
    cyclic = record { place = at; code = CyclicOrder }

    at_first : Refusal
    at_first = record { place = place_of f; code = BadNode }

    at_second : Refusal
    at_second = record { place = place_of g; code = BadNode }

    all : ((stands_before o cyclic && stands_before o at_first) ≡ true) × (stands_before o at_second ≡ true)
    all = two_true (stands_before o cyclic && stands_before o at_first) (stands_before o at_second) h

    front : (stands_before o cyclic ≡ true) × (stands_before o at_first ≡ true)
    front = two_true (stands_before o cyclic) (stands_before o at_first) all.0

    by_strand : (b : Bool) (c d : Bool) → o ≡ first_onto o (if b then [] else fault_unless c (place_of f) BadNode ++ fault_unless d (place_of g) BadNode)
    by_strand true c d = refl
    by_strand false c d =
        unless_changed o d (place_of g) BadNode all.1 ∙ ap (λ x. first_onto x (fault_unless d (place_of g) BadNode)) (unless_changed o c (place_of f) BadNode front.1)
        ∙ sym (first_onto-append o (fault_unless c (place_of f) BadNode) (fault_unless d (place_of g) BadNode))

    by_cycle : (b : Bool) → o ≡ first_onto o (if b then fault at CyclicOrder else direction_faults strands f g p)
    by_cycle true = first.none_changed refusal_before o cyclic front.0
    by_cycle false = by_strand (on_one_strand p) (is_some_transmission (term_event_at strands p.earlier)) (is_some_reception (term_event_at strands p.later))

-- ---- one pair

module _ (strands : List SkeletonStrand) (before : List OrderPair) (at : Place) where
  pub few_in_pair : (fs : List program.Form) → length fs < 2 → fault at BadShape ≡ pair_items_faults strands before at (map view fs)
  few_in_pair [] l = refl
  few_in_pair (x ∷ []) l = refl
  few_in_pair (x ∷ y ∷ fs) l = absurd (omega arith)

  abbrev inner : Form → Form → List Refusal
  inner f g = unless_faulty (node_faults strands f ++ node_faults strands g) (order_faults strands before at f g (pair_of_nodes (node_of f) (node_of g)))

  abbrev whole : Form → Form → List Form → List Form → List Form → List Refusal
  whole f g fs gs rest = inner f g ++ exceeds 2 fs ++ exceeds 2 gs ++ exceeds 0 rest

  pub pair-read : (items : List program.Form) (f g : program.Form) → 2 ≤ length items → f ≡ get_or items 0 f → g ≡ get_or items 1 g → (fs gs : List program.Form) → map view fs ≡ list_items (view f) → map view gs ≡ list_items (view g)
      → (o p q r s : Option Refusal) → p ≡ first_onto o (inner (view f) (view g)) → q ≡ first_onto p (exceeds 2 (map view fs)) → r ≡ first_onto q (exceeds 2 (map view gs))
      → s ≡ first_onto r (exceeds 0 (map view (take (length items - 2) (drop 2 items)))) → s ≡ first_onto o (pair_items_faults strands before at (map view items))
  pair-read [] f g l e h fs gs ef eg o p q r s hp hq hr hs = absurd (omega arith)
  pair-read (x ∷ []) f g l e h fs gs ef eg o p q r s hp hq hr hs = absurd (omega arith)
  pair-read (x ∷ y ∷ items) f g l e h fs gs ef eg o p q r s hp hq hr hs =
      let rest = take (length (x ∷ y ∷ items) - 2) items in
      first_then_four o p q r s (inner (view f) (view g)) (exceeds 2 (map view fs)) (exceeds 2 (map view gs)) (exceeds 0 (map view rest)) hp hq hr hs
      ∙ ap (λ ls. first_onto o (whole (view f) (view g) ls (map view gs) (map view rest))) ef
      ∙ ap (λ ls. first_onto o (whole (view f) (view g) (list_items (view f)) ls (map view rest))) eg
      ∙ ap (λ k. first_onto o (whole (view k) (view g) (list_items (view k)) (list_items (view g)) (map view rest))) e
      ∙ ap (λ k. first_onto o (whole (view x) (view k) (list_items (view x)) (list_items (view k)) (map view rest))) h
      ∙ ap (λ ks. first_onto o (whole (view x) (view y) (list_items (view x)) (list_items (view y)) (map view ks))) (take_all (length (x ∷ y ∷ items) - 2) items (omega arith))

-- ---- pair after pair

module _ (strands : List SkeletonStrand) (items : List program.Form) (k : ℕ) (f : program.Form) (lt : k < length items) (is : f ≡ get_or items k f) (before after : List OrderPair) (added : after ≡ before ++ pair_of (view f)) where
  pub pairs-taken : (whole : List OrderPair) → before ++ pairs_in (map view (drop k items)) ≡ whole → after ++ pairs_in (map view (drop (k + 1) items)) ≡ whole
  pairs-taken whole h =
      let rest = pairs_in (map view (drop (k + 1) items)) in
      ap (λ ps. ps ++ rest) added ∙ append_assoc before (pair_of (view f)) rest ∙ sym (ap (λ gs. before ++ pairs_in (map view gs)) (drop_read items k f lt is)) ∙ h

  pairs-judged : (o p all : Option Refusal) → p ≡ first_onto o (pair_faults strands before (view f)) → first_onto o (pairs_faults strands before (map view (drop k items))) ≡ all
      → first_onto p (pairs_faults strands after (map view (drop (k + 1) items))) ≡ all
  pairs-judged o p all e h =
      let rest = map view (drop (k + 1) items) in
      ap (λ q. first_onto q (pairs_faults strands after rest)) e ∙ ap (λ ps. first_onto (first_onto o (pair_faults strands before (view f))) (pairs_faults strands ps rest)) added
      ∙ sym (first_onto-append o (pair_faults strands before (view f)) (pairs_faults strands (before ++ pair_of (view f)) rest))
      ∙ sym (ap (λ gs. first_onto o (pairs_faults strands before (map view gs))) (drop_read items k f lt is)) ∙ h

  -- a pair is judged, and goes behind the others
  pub pair-behind : (o p all : Option Refusal) (whole : List OrderPair) → p ≡ first_onto o (pair_faults strands before (view f))
      → (first_onto o (pairs_faults strands before (map view (drop k items))) ≡ all) × (before ++ pairs_in (map view (drop k items)) ≡ whole)
      → (first_onto p (pairs_faults strands after (map view (drop (k + 1) items))) ≡ all) × (after ++ pairs_in (map view (drop (k + 1) items)) ≡ whole)
  pair-behind o p all whole e h = (pairs-judged o p all e h.0, pairs-taken whole h.1)
