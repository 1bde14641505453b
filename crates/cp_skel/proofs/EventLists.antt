-- What is in the list of a skeleton's events, and the loops that make it.
use Rattle.std.proofs.Common.{ℕ, zero, suc, ◌+◌, ◌<◌, Bool, true, false, List, [], ◌∷◌, ◌++◌, length, drop, add-one, Option, Some, None, ◌≡◌, inl, inr, refl, sym, subst, ap, ◌∙◌, arith}
use Rattle.cp_lists.specs.Lists.{item_at, IsIn, here, there}
use Rattle.cp_model.specs.Term.{Term}
use Rattle.cp_model.specs.declared.strand.Event.{Event}
use Rattle.cp_model.specs.Bundle.{node_at}
use Rattle.cp_model.specs.declared.node.Node.{Node}
use Rattle.cp_model.specs.Skeleton.{SkeletonStrand, instance, listener, skeleton_trace, skeleton_trace_or_none, term_event_at, Skeleton}
use Rattle.cp_model.specs.Derivable.{IsOnInstance}
use Rattle.cp_skel.specs.Events.{LocatedEvent, is_role_strand, located_events_on, located_events_from, events_of}
use Rattle.cp_lists.proofs.Members.{in_cases, in_append, in_append_left, in_append_right}
use Rattle.cp_lists.proofs.Items.{drop_of_item, some_within}
use Rattle.cp_lists.proofs.Appended.{moved_behind}

-- ---- the loops that list them

pub event_added : (s i : ℕ) (r : Bool) (es : List (Event Term)) (found : Option (Event Term)) (e : Event Term) (old new whole : List LocatedEvent) →
    found ≡ item_at es i → found ≡ Some e → new ≡ old ++ (record { node = node_at s i; event = e; by_role = r } ∷ []) →
    old ++ located_events_on s i r (drop i es) ≡ whole → new ++ located_events_on s (i + 1) r (drop (i + 1) es) ≡ whole
event_added s i r es found e old new whole at is n all =
    let here : item_at es i ≡ Some e = sym at ∙ is in
    rw add-one
    (moved_behind old new (located_events_on s i r (drop i es)) (located_events_on s (suc i) r (drop (suc i) es)) whole
    (record { node = node_at s i; event = e; by_role = r }) n (ap (located_events_on s i r) (drop_of_item es i e here)) all)

pub event_there : (i n : ℕ) (es : List (Event Term)) (found : Option (Event Term)) → found ≡ item_at es i → i < n → n ≡ length es →
    ((e : Event Term) → found ≡ Some e → ⊥) → ⊥
event_there i n es None at h l none = some_within es i (omega arith) (sym at)
event_there i n es (Some e) at h l none = none e refl

-- ---- on one strand

-- The event stands at some place of the strand's events.
pub record StandsOn (s i : ℕ) (r : Bool) (es : List (Event Term)) (o : LocatedEvent) : Type 0 where
  pub place : ℕ
  pub strand : o.node.strand ≡ s
  pub index : o.node.index ≡ i + place
  pub event : item_at es place ≡ Some o.event
  pub role : o.by_role ≡ r

first_stands : (s i : ℕ) (r : Bool) (e : Event Term) (es : List (Event Term)) (o : LocatedEvent) → record { node = node_at s i; event = e; by_role = r } ≡ o → StandsOn s i r (e ∷ es) o
first_stands s i r e es o same = record {
  place = 0;
  strand = ap (λ (x : LocatedEvent). x.node.strand) (sym same);
  index = let at : o.node.index ≡ i = ap (λ (x : LocatedEvent). x.node.index) (sym same) in omega arith;
  event = ap (λ (x : LocatedEvent). Some x.event) same;
  role = ap (λ (x : LocatedEvent). x.by_role) (sym same);
}

later_stands : (s i : ℕ) (r : Bool) (e : Event Term) (es : List (Event Term)) (o : LocatedEvent) → StandsOn s (suc i) r es o → StandsOn s i r (e ∷ es) o
later_stands s i r e es o h = record { place = suc h.place; strand = h.strand; index = let at = h.index in omega arith; event = h.event; role = h.role }

pub stands_on : (s i : ℕ) (r : Bool) (es : List (Event Term)) (o : LocatedEvent) → IsIn o (located_events_on s i r es) → StandsOn s i r es o
stands_on s i r [] o h = elim h [ ]
stands_on s i r (e ∷ es) o h = elim (in_cases h) [ inl same ↦ first_stands s i r e es o same | inr more ↦ later_stands s i r e es o (stands_on s (suc i) r es o more) ]

pub on_stands : (s i j : ℕ) (r : Bool) (es : List (Event Term)) (e : Event Term) → item_at es j ≡ Some e → IsIn (record { node = node_at s (i + j); event = e; by_role = r }) (located_events_on s i r es)
on_stands s i j r [] e h = absurd (cc)
on_stands s i zero r (x ∷ es) e h =
    let same : x ≡ e = cc in
    let at : i + 0 ≡ i = omega arith in
    subst (λ n. IsIn (record { node = node_at s n; event = e; by_role = r }) (located_events_on s i r (x ∷ es))) (sym at)
    (subst (λ y. IsIn (record { node = node_at s i; event = e; by_role = r }) (located_events_on s i r (y ∷ es))) (sym same) here)
on_stands s i (suc j) r (x ∷ es) e h =
    let at : i + suc j ≡ suc i + j = omega arith in
    subst (λ n. IsIn (record { node = node_at s n; event = e; by_role = r }) (located_events_on s i r (x ∷ es))) (sym at) (there (on_stands s (suc i) j r es e h))

-- ---- on strands

-- The event stands at some place of some strand.
pub record StandsAmong (s : ℕ) (xs : List SkeletonStrand) (o : LocatedEvent) : Type 0 where
  pub place : ℕ
  pub strand : SkeletonStrand
  pub number : o.node.strand ≡ s + place
  pub there_is : item_at xs place ≡ Some strand
  pub event : item_at (skeleton_trace strand) o.node.index ≡ Some o.event
  pub role : o.by_role ≡ is_role_strand strand

first_among : (s : ℕ) (x : SkeletonStrand) (xs : List SkeletonStrand) (o : LocatedEvent) → StandsOn s 0 (is_role_strand x) (skeleton_trace x) o → StandsAmong s (x ∷ xs) o
first_among s x xs o h =
    let at : o.node.index ≡ h.place = let i = h.index in omega arith in
    record { place = 0; strand = x; number = let n = h.strand in omega arith; there_is = refl; event = ap (item_at (skeleton_trace x)) at ∙ h.event; role = h.role }

later_among : (s : ℕ) (x : SkeletonStrand) (xs : List SkeletonStrand) (o : LocatedEvent) → StandsAmong (suc s) xs o → StandsAmong s (x ∷ xs) o
later_among s x xs o h = record { place = suc h.place; strand = h.strand; number = let n = h.number in omega arith; there_is = h.there_is; event = h.event; role = h.role }

pub stands_among : (s : ℕ) (xs : List SkeletonStrand) (o : LocatedEvent) → IsIn o (located_events_from s xs) → StandsAmong s xs o
stands_among s [] o h = elim h [ ]
stands_among s (x ∷ xs) o h =
    elim (in_append (located_events_on s 0 (is_role_strand x) (skeleton_trace x)) (located_events_from (suc s) xs) h) [
      | inl i ↦ first_among s x xs o (stands_on s 0 (is_role_strand x) (skeleton_trace x) o i)
      | inr i ↦ later_among s x xs o (stands_among (suc s) xs o i)
    ]

pub among_stands : (s j : ℕ) (xs : List SkeletonStrand) (x : SkeletonStrand) (i : ℕ) (e : Event Term) → item_at xs j ≡ Some x → item_at (skeleton_trace x) i ≡ Some e →
    IsIn (record { node = node_at (s + j) i; event = e; by_role = is_role_strand x }) (located_events_from s xs)
among_stands s j [] x i e h at = absurd (cc)
among_stands s zero (y ∷ xs) x i e h at =
    let same : y ≡ x = cc in
    let number : s + 0 ≡ s = omega arith in
    let place : 0 + i ≡ i = omega arith in
    subst (λ n. IsIn (record { node = node_at n i; event = e; by_role = is_role_strand x }) (located_events_from s (y ∷ xs))) (sym number)
    (subst (λ z. IsIn (record { node = node_at s i; event = e; by_role = is_role_strand x }) (located_events_from s (z ∷ xs))) (sym same)
    (in_append_left (located_events_from (suc s) xs)
    (subst (λ n. IsIn (record { node = node_at s n; event = e; by_role = is_role_strand x }) (located_events_on s 0 (is_role_strand x) (skeleton_trace x))) place
    (on_stands s 0 i (is_role_strand x) (skeleton_trace x) e at))))
among_stands s (suc j) (y ∷ xs) x i e h at =
    let number : s + suc j ≡ suc s + j = omega arith in
    subst (λ n. IsIn (record { node = node_at n i; event = e; by_role = is_role_strand x }) (located_events_from s (y ∷ xs))) (sym number)
    (in_append_right (located_events_on s 0 (is_role_strand y) (skeleton_trace y)) (among_stands (suc s) j xs x i e h at))

-- ---- in a skeleton

strand_at : (xs : List SkeletonStrand) (o : LocatedEvent) (h : StandsAmong 0 xs o) → item_at xs o.node.strand ≡ Some h.strand
strand_at xs o h = let at : o.node.strand ≡ h.place = let n = h.number in omega arith in ap (item_at xs) at ∙ h.there_is

-- What is listed is the event at its node.
pub listed_event : (k : Skeleton) (o : LocatedEvent) → IsIn o (events_of k) → term_event_at k.strands o.node ≡ Some o.event
listed_event k o i =
    let h = stands_among 0 k.strands o i in
    ap (λ s. item_at (skeleton_trace_or_none s) o.node.index) (strand_at k.strands o h) ∙ h.event

role_strand : (k : Skeleton) (n : Node) (x : SkeletonStrand) → item_at k.strands n.strand ≡ Some x → is_role_strand x ≡ true → IsOnInstance k n
role_strand k n (instance role height terms) at r = record { role = role; height = height; terms = terms; on_instance = at }
role_strand k n (listener t) at r = absurd (cc)

pub listed_role : (k : Skeleton) (o : LocatedEvent) → IsIn o (events_of k) → o.by_role ≡ true → IsOnInstance k o.node
listed_role k o i r =
    let h = stands_among 0 k.strands o i in
    role_strand k o.node h.strand (strand_at k.strands o h) (sym h.role ∙ r)

-- Each event is listed.
pub record IsListedAs (k : Skeleton) (n : Node) (e : Event Term) (strand : SkeletonStrand) : Type 0 where
  pub at : item_at k.strands n.strand ≡ Some strand
  pub listed : IsIn (record { node = n; event = e; by_role = is_role_strand strand }) (events_of k)

list_on : (k : Skeleton) (n : Node) (e : Event Term) (x : SkeletonStrand) → item_at k.strands n.strand ≡ Some x → item_at (skeleton_trace x) n.index ≡ Some e → IsListedAs k n e x
list_on k n e x at event =
    let number : 0 + n.strand ≡ n.strand = omega arith in
    record {
      at = at;
      listed =
          subst (λ s. IsIn (record { node = node_at s n.index; event = e; by_role = is_role_strand x }) (events_of k)) number
          (among_stands 0 n.strand k.strands x n.index e at event);
    }

list_at : (k : Skeleton) (n : Node) (e : Event Term) (o : Option SkeletonStrand) → item_at k.strands n.strand ≡ o → item_at (skeleton_trace_or_none o) n.index ≡ Some e →
    (x : SkeletonStrand) × IsListedAs k n e x
list_at k n e None at event = absurd (cc)
list_at k n e (Some x) at event = (x, list_on k n e x at event)

pub event_listed : (k : Skeleton) (n : Node) (e : Event Term) → term_event_at k.strands n ≡ Some e → (x : SkeletonStrand) × IsListedAs k n e x
event_listed k n e at = list_at k n e (item_at k.strands n.strand) refl at

-- Whether a role strand is there, if any is.
abbrev pub is_role_at : Option SkeletonStrand → Bool
is_role_at None = false
is_role_at (Some x) = is_role_strand x

-- The event at a node, as it is listed.
abbrev pub located_event_at : Skeleton → Node → Event Term → LocatedEvent
located_event_at k n e = record { node = n; event = e; by_role = is_role_at (item_at k.strands n.strand) }

pub listed_at : (k : Skeleton) (n : Node) (e : Event Term) → term_event_at k.strands n ≡ Some e → IsIn (located_event_at k n e) (events_of k)
listed_at k n e at =
    let h = event_listed k n e at in
    subst (λ r. IsIn (record { node = n; event = e; by_role = r }) (events_of k)) (sym (ap is_role_at h.1.at)) h.1.listed
