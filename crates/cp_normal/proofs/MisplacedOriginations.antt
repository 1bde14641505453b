-- The first of the unique values that are misplaced.
use Rattle.std.proofs.Common.{Bool, true, false, ◌≡◌, ◌≢◌, ◌⊎◌, inl, inr, ℕ, zero, suc, ◌+◌, ◌<◌, ◌≤◌, List, [], ◌∷◌, length, get_or, Some, None, refl, sym, ap, ◌∙◌, subst, arith}
use Rattle.std.proofs.lemmas.Bool.{both_ways}
use Rattle.std.proofs.lemmas.List.{get_or_default}
use Rattle.cp_lists.specs.Lists.{item_at, IsIn, here, there}
use Rattle.cp_lists.proofs.Items.{place_of, item_of_read, item_past, at_append, at_place}
use Rattle.cp_lists.proofs.Members.{item_is_in}
use Rattle.cp_model.specs.Term.{AtomTerm, Term}
use Rattle.cp_model.specs.declared.strand.Event.{Event}
use Rattle.cp_model.specs.declared.strand.Event.TheVariants.{Send as send}
use Rattle.cp_model.specs.Bundle.{node_at}
use Rattle.cp_model.specs.declared.node.Node.{Node}
use Rattle.cp_model.specs.Given.{listed}
use Rattle.cp_model.specs.Same.{same_atom, same_node}
use Rattle.cp_model.specs.Realisation.{OriginatesAtTerm}
use Rattle.cp_model.proofs.SameTests.{atom_is, is_atom, node_is, is_node}
use Rattle.cp_model.specs.Skeleton.{SkeletonStrand, skeleton_trace, UniqueAt, Skeleton}
use Rattle.cp_skel.proofs.EachOnce.{listed-unique}
use Rattle.cp_skel.proofs.EventLists.{located_event_at, listed_at}
use Rattle.cp_skel.specs.Events.{LocatedEvent, is_role_strand, located_events_on, located_events_from, events_of}
use Rattle.cp_normal.specs.NormalForms.{IsMisplaced}
use Rattle.cp_normal.specs.Branches.{IsSettled}
use Rattle.cp_normal.specs.MisplacedValues.{OriginatesElsewhere, OriginatesMisplaced, NoneBefore, IsFirstMisplacedAt, IsEarlier, IsFirstMisplaced}

-- ---- loops that find the first

read_at : {A : Type 0} (xs : List A) (i : ℕ) (x d : A) → i < length xs → x ≡ get_or xs i d → item_at xs i ≡ Some x
read_at xs i x d l e = item_of_read xs i x l (e ∙ get_or_default xs i d x l)

module _ {A : Type 0} (has : A → Type 0) (xs : List A) (i : ℕ) where
  pub none_at_first : NoneBefore has xs 0
  none_at_first j x l e h = omega arith

  split : (j : ℕ) → j < i + 1 → (j < i) ⊎ (j ≡ i)
  split j l = grind arith

  none_next_at : (x d : A) (j : ℕ) (y : A) → i < length xs → x ≡ get_or xs i d → (has x → ⊥) → NoneBefore has xs i → (j < i) ⊎ (j ≡ i) → item_at xs j ≡ Some y → has y → ⊥
  none_next_at x d j y l e not inv (inl m) at h = inv j y m at h
  none_next_at x d j y l e not inv (inr q) at h =
      let s : item_at xs i ≡ Some y = subst (λ n. item_at xs n ≡ Some y) q at in
      let t : item_at xs i ≡ Some x = read_at xs i x d l e in
      let r : y ≡ x = cc in
      not (subst has r h)

  pub none_next : (x d : A) → i < length xs → x ≡ get_or xs i d → (has x → ⊥) → NoneBefore has xs i → NoneBefore has xs (i + 1)
  none_next x d l e not inv j y m at h = none_next_at x d j y l e not inv (split j m) at h

  before_or_past : (j : ℕ) → length xs ≤ i → (j < i) ⊎ (length xs ≤ j)
  before_or_past j l = grind arith

  none_of : (y : A) (j : ℕ) → NoneBefore has xs i → (j < i) ⊎ (length xs ≤ j) → item_at xs j ≡ Some y → has y → ⊥
  none_of y j inv (inl m) at h = inv j y m at h
  none_of y j inv (inr m) at h = let past : item_at xs j ≡ None = item_past xs j m in cc

  pub none_at_all : length xs ≤ i → NoneBefore has xs i → (y : A) → IsIn y xs → has y → ⊥
  none_at_all l inv y m h = let r = place_of m in none_of y r.0 inv (before_or_past r.0 l) r.1 h

-- ---- one event

pub first_found : (k : Skeleton) (x : Node) (us : List UniqueAt) (i : ℕ) (u d : UniqueAt) (v : AtomTerm) → i < length us → u ≡ get_or us i d → OriginatesElsewhere k x u → u.value ≡ v → NoneBefore (OriginatesElsewhere k x) us i → IsFirstMisplacedAt k x us v
first_found k x us i u d v l e s q inv = record { place = i; entry = u; at_place = read_at us i u d l e; originates_elsewhere = s; is_value = q; first = inv }

pub none_of_own : (k : Skeleton) (o : LocatedEvent) (us : List UniqueAt) → us ≡ k.assumptions.uniquely_originating → ((u : UniqueAt) → IsIn u us → OriginatesElsewhere k o.node u → ⊥) → OriginatesMisplaced k o → ⊥
none_of_own k o us same none h = none h.0 (subst (IsIn h.0) (sym same) h.1) h.2

-- ---- a value that is misplaced alone

module _ (k : Skeleton) (x : Node) (v : AtomTerm) (originates : OriginatesAtTerm k v x) where
  -- Of the entries, those are misplaced at the node that have this value and another origin.
  by_tests : (u : UniqueAt) (same at : Bool) → same_atom u.value v ≡ same → same_node x u.origin ≡ at → (OriginatesElsewhere k x u → u.value ≢ v → ⊥) → ((u.value ≡ v) × OriginatesElsewhere k x u) ⊎ (OriginatesElsewhere k x u → ⊥)
  by_tests u false at e f alone = inr (λ s. alone s (λ q. both_ways (same_atom u.value v) e (is_atom u.value v q)))
  by_tests u true true e f alone = inr (λ s. s.0 (node_is x u.origin f))
  by_tests u true false e f alone =
      let q : u.value ≡ v = atom_is u.value v e in
      inl (q, ((λ at. both_ways (same_node x u.origin) f (is_node x u.origin at)), subst (λ (w : AtomTerm). OriginatesAtTerm k w x) (sym q) originates))

  none_before_next : (w : UniqueAt) (us : List UniqueAt) (p : ℕ) → (OriginatesElsewhere k x w → ⊥) → NoneBefore (OriginatesElsewhere k x) us p → NoneBefore (OriginatesElsewhere k x) (w ∷ us) (suc p)
  none_before_next w us p never first zero y l at s = let q : y ≡ w = cc in never (subst (OriginatesElsewhere k x) q s)
  none_before_next w us p never first (suc j) y l at s = first j y (omega (arith, l)) at s

  first_or_next : (w : UniqueAt) (us : List UniqueAt) → ((w.value ≡ v) × OriginatesElsewhere k x w) ⊎ (OriginatesElsewhere k x w → ⊥) → ((OriginatesElsewhere k x w → ⊥) → IsFirstMisplacedAt k x us v) → IsFirstMisplacedAt k x (w ∷ us) v
  first_or_next w us (inl s) rest = record { place = 0; entry = w; at_place = refl; originates_elsewhere = s.1; is_value = s.0; first = λ j y l at h. omega (arith, l) }
  first_or_next w us (inr never) rest =
      let f = rest never in
      record {
        place = suc f.place;
        entry = f.entry;
        at_place = f.at_place;
        originates_elsewhere = f.originates_elsewhere;
        is_value = f.is_value;
        first = none_before_next w us f.place never f.first;
      }

  first_of : (us : List UniqueAt) (u : UniqueAt) → IsIn u us → OriginatesElsewhere k x u → ((w : UniqueAt) → IsIn w us → OriginatesElsewhere k x w → w.value ≢ v → ⊥) → IsFirstMisplacedAt k x us v
  first_of [] u i s alone = elim i [ ]
  first_of (w ∷ us) u here s alone = first_or_next w us (by_tests w (same_atom w.value v) (same_node x w.origin) refl refl (alone w here)) (λ never. absurd (never s))
  first_of (w ∷ us) u (there i) s alone = first_or_next w us (by_tests w (same_atom w.value v) (same_node x w.origin) refl refl (alone w here)) (λ never. first_of us u i s (λ z j. alone z (there j)))

-- The value that alone is misplaced at a node is the first in any order.
pub alone_first : (k : Skeleton) (x : Node) (us : List UniqueAt) (v : AtomTerm) → us ≡ k.assumptions.uniquely_originating → ((u : UniqueAt) → IsIn u us → OriginatesElsewhere k x u → u.value ≢ v → ⊥) → IsFirstMisplacedAt k x k.assumptions.uniquely_originating v →
    IsFirstMisplacedAt k x (listed k).uniquely_originating v
alone_first k x us v own alone f =
    let same = (listed-unique k).same in
    let inside : IsIn f.entry k.assumptions.uniquely_originating = at_place _ f.place f.entry f.at_place in
    let originates = subst (λ (w : AtomTerm). OriginatesAtTerm k w x) f.is_value f.originates_elsewhere.1 in
    first_of k x v originates (listed k).uniquely_originating f.entry ((same f.entry).1 inside) f.originates_elsewhere (λ w i. alone w (subst (IsIn w) (sym own) ((same w).0 i)))

-- What is misplaced is so in the order of a report too.
pub some_listed : (k : Skeleton) (x : Node) (us : List UniqueAt) (v : AtomTerm) → us ≡ (listed k).uniquely_originating → IsFirstMisplacedAt k x k.assumptions.uniquely_originating v → ((u : UniqueAt) → IsIn u us → OriginatesElsewhere k x u → ⊥) → ⊥
some_listed k x us v same f none =
    none f.entry (subst (IsIn f.entry) (sym same) (((listed-unique k).same f.entry).1 (at_place _ f.place f.entry f.at_place))) f.originates_elsewhere

-- ---- the order of the events

on_place : (s b : ℕ) (r : Bool) (es : List (Event Term)) (i : ℕ) (o : LocatedEvent) → item_at (located_events_on s b r es) i ≡ Some o → o.node ≡ node_at s (b + i)
on_place s b r [] i o e = absurd (cc)
on_place s b r (x ∷ es) zero o e =
    let q : record { node = node_at s b; event = x; by_role = r } ≡ o = cc in
    let z : b ≡ b + 0 = omega arith in
    sym (ap (λ (p : LocatedEvent). p.node) q) ∙ ap (node_at s) z
on_place s b r (x ∷ es) (suc i) o e = let z : suc b + i ≡ b + suc i = omega arith in on_place s (suc b) r es i o e ∙ ap (node_at s) z

from_strand : (s : ℕ) (xs : List SkeletonStrand) (i : ℕ) (o : LocatedEvent) → item_at (located_events_from s xs) i ≡ Some o → s ≤ o.node.strand
from_strand s [] i o e = absurd (cc)
from_strand s (x ∷ xs) i o e = elim (at_append (located_events_on s 0 (is_role_strand x) (skeleton_trace x)) (located_events_from (suc s) xs) i o e) as (λ _. s ≤ o.node.strand) [
  | inl p ↦ let q : o.node.strand ≡ s = ap (λ (n : Node). n.strand) (on_place s 0 (is_role_strand x) (skeleton_trace x) i o p.0) in omega (arith, q)
  | inr p ↦ let q : suc s ≤ o.node.strand = from_strand (suc s) xs p.0 o p.2 in omega (arith, q)
]

module _ (s : ℕ) (es : List (Event Term)) (i j : ℕ) (o p : LocatedEvent) where
  earlier_index : o.node ≡ node_at s (0 + i) → p.node ≡ node_at s (0 + j) → IsEarlier p.node o.node → j < i
  earlier_index a b (inl l) =
      let c : o.node.strand ≡ s = ap (λ (n : Node). n.strand) a in
      let d : p.node.strand ≡ s = ap (λ (n : Node). n.strand) b in
      absurd (omega (arith, l, c, d))
  earlier_index a b (inr l) =
      let c : o.node.index ≡ 0 + i = ap (λ (n : Node). n.index) a in
      let d : p.node.index ≡ 0 + j = ap (λ (n : Node). n.index) b in
      omega (arith, l.1, c, d)

  not_earlier : o.node.strand ≡ s → suc s ≤ p.node.strand → IsEarlier p.node o.node → ⊥
  not_earlier a b (inl l) = omega (arith, a, b, l)
  not_earlier a b (inr l) = omega (arith, a, b, l.0)

abbrev InFrom : ℕ → SkeletonStrand → List SkeletonStrand → ℕ → LocatedEvent → Type 0
InFrom s x xs i o = ((item_at (located_events_on s 0 (is_role_strand x) (skeleton_trace x)) i ≡ Some o) × (i < length (located_events_on s 0 (is_role_strand x) (skeleton_trace x)))) ⊎ ((j : ℕ) × (i ≡ length (located_events_on s 0 (is_role_strand x) (skeleton_trace x)) + j) × (item_at (located_events_from (suc s) xs) j ≡ Some o))

module _ (s : ℕ) (x : SkeletonStrand) (xs : List SkeletonStrand) (i j : ℕ) (o p : LocatedEvent) (earlier : IsEarlier p.node o.node)
    (more : (i j : ℕ) → item_at (located_events_from (suc s) xs) i ≡ Some o → item_at (located_events_from (suc s) xs) j ≡ Some p → j < i) where
  order_of : InFrom s x xs i o → InFrom s x xs j p → j < i
  order_of (inl a) (inl b) = earlier_index s (skeleton_trace x) i j o p (on_place s 0 (is_role_strand x) (skeleton_trace x) i o a.0) (on_place s 0 (is_role_strand x) (skeleton_trace x) j p b.0) earlier
  order_of (inl a) (inr b) =
      let q : o.node.strand ≡ s = ap (λ (n : Node). n.strand) (on_place s 0 (is_role_strand x) (skeleton_trace x) i o a.0) in
      absurd (not_earlier s (skeleton_trace x) i j o p q (from_strand (suc s) xs b.0 p b.2) earlier)
  order_of (inr a) (inl b) = omega (arith, a.1, b.1)
  order_of (inr a) (inr b) = let l : b.0 < a.0 = more a.0 b.0 a.2 b.2 in omega (arith, l, a.1, b.1)

-- An event at an earlier node stands before another in the list.
in_order : (s : ℕ) (xs : List SkeletonStrand) (i j : ℕ) (o p : LocatedEvent) → IsEarlier p.node o.node → item_at (located_events_from s xs) i ≡ Some o → item_at (located_events_from s xs) j ≡ Some p → j < i
in_order s [] i j o p earlier a b = absurd (cc)
in_order s (x ∷ xs) i j o p earlier a b =
    let first = located_events_on s 0 (is_role_strand x) (skeleton_trace x) in
    let rest = located_events_from (suc s) xs in
    order_of s x xs i j o p earlier (λ n m. in_order (suc s) xs n m o p earlier) (at_append first rest i o a) (at_append first rest j p b)

-- ---- all events

module _ (k : Skeleton) (xs : List LocatedEvent) (events : xs ≡ events_of k) where
  misplaced_listed : (u : UniqueAt) (y : Node) (misplaced : IsMisplaced k u y) → IsIn (located_event_at k y (send misplaced.originates.1.sent)) xs
  misplaced_listed u y misplaced = subst (IsIn (located_event_at k y (send misplaced.originates.1.sent))) (sym events) (listed_at k y (send misplaced.originates.1.sent) misplaced.originates.1.transmission)

  pub none_is_misplaced : (i : ℕ) → length xs ≤ i → NoneBefore (OriginatesMisplaced k) xs i → IsSettled k
  none_is_misplaced i l inv u y misplaced =
      none_at_all (OriginatesMisplaced k) xs i l inv (located_event_at k y (send misplaced.originates.1.sent)) (misplaced_listed u y misplaced) (u, misplaced.listed, (misplaced.elsewhere, misplaced.originates))

  pub event_listed : (i : ℕ) (x : LocatedEvent) → i < length xs → x ≡ get_or xs i x → IsIn x (events_of k)
  event_listed i x l e = subst (IsIn x) events (item_is_in xs i x l e)

  pub earliest_found : (i : ℕ) (x d : LocatedEvent) → i < length xs → x ≡ get_or xs i d → NoneBefore (OriginatesMisplaced k) xs i → (u : UniqueAt) (y : Node) → IsMisplaced k u y → IsEarlier y x.node → ⊥
  earliest_found i x d l e inv u y misplaced earlier =
      let o : LocatedEvent = located_event_at k y (send misplaced.originates.1.sent) in
      let r = place_of (misplaced_listed u y misplaced) in
      let at_o : item_at (events_of k) r.0 ≡ Some o = subst (λ (os : List LocatedEvent). item_at os r.0 ≡ Some o) events r.1 in
      let at_x : item_at (events_of k) i ≡ Some x = subst (λ (os : List LocatedEvent). item_at os i ≡ Some x) events (read_at xs i x d l e) in
      inv r.0 o (in_order 0 k.strands i r.0 x o earlier at_x at_o) r.1 (u, misplaced.listed, (misplaced.elsewhere, misplaced.originates))

  pub first_misplaced_found : (i : ℕ) (x d : LocatedEvent) (v : AtomTerm) → i < length xs → x ≡ get_or xs i d → NoneBefore (OriginatesMisplaced k) xs i → IsFirstMisplacedAt k x.node (listed k).uniquely_originating v →
      IsFirstMisplaced k v x.node
  first_misplaced_found i x d v l e inv found = record { here = found; earliest = earliest_found i x d l e inv }
