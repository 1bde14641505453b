-- The list of all pairs of an order.
use Rattle.std.proofs.Common.{◌≡◌, ◌≢◌, ◌↔◌, ◌⊎◌, inl, inr, ℕ, List, [], ◌∷◌, ◌++◌, map, Bool, true, false, if◌then◌else◌, refl, sym, ap, ◌∙◌, subst, arith}
use Rattle.std.specs.Prelude.{◌==◌, not, Some, length}
use Rattle.std.specs.List.{filter}
use Rattle.std.proofs.lemmas.Bool.{and_from, and_parts}
use Rattle.std.proofs.lemmas.Bool.Decides.{nat_tests, same_from_decides}
use Rattle.cp_lists.specs.Lists.{IsIn, here, there}
use Rattle.cp_lists.proofs.Members.{in_append, in_append_left, in_append_right, in_if_here, in_if_behind}
use Rattle.cp_model.specs.Term.{Term}
use Rattle.cp_model.specs.declared.strand.Event.{Event}
use Rattle.cp_model.specs.declared.strand.Event.TheVariants.{Send as send, Receive as recv}
use Rattle.cp_model.specs.declared.node.Node.{Node}
use Rattle.cp_model.specs.declared.node.OrderPair.{OrderPair}
use Rattle.cp_model.specs.Order.{ReachesAlong}
use Rattle.cp_model.specs.OrderTests.{reaches_within}
use Rattle.cp_model.specs.Skeleton.{term_event_at, Skeleton, Before}
use Rattle.cp_model.proofs.LawOrder.{before_leads, leads_before}
use Rattle.cp_model.proofs.BoundedSearch.{bounded_search}
use Rattle.cp_skel.specs.Events.{LocatedEvent, events_of}
use Rattle.cp_skel.specs.Ordered.{IsOrdered}
use Rattle.cp_skel.proofs.EventLists.{listed_event, located_event_at, listed_at}
use Rattle.cp_derive.specs.Unrealised.{IsListedBefore, AreRising}
use Rattle.cp_derive.proofs.PickedReceptions.{node_of, all_rise}
use Rattle.cp_general.specs.declared.pairs.Reception.{Reception}
use Rattle.cp_general.specs.Steps.{IsPairOfOrder, IsLowerPair}
use Rattle.cp_general.specs.ListedPairs.{AreRisingPairs, ListsOrder, is_transmission, is_reception, nodes_where, gathered, leads_across, pairs_to_receptions, pairs_between}

-- ---- nodes of events

of_if : {A : Type 0} (b : Bool) (z y : A) (ys : List A) → IsIn y (if b then z ∷ ys else ys) → ((b ≡ true) × (z ≡ y)) ⊎ IsIn y ys
of_if true z y ys here = inl (refl, refl)
of_if true z y ys (there m) = inr m
of_if false z y ys m = inr m

nodes_if : (b : Bool) (x : LocatedEvent) (xs : List LocatedEvent) → map node_of (if b then x ∷ xs else xs) ≡ (if b then x.node ∷ map node_of xs else map node_of xs)
nodes_if true x xs = refl
nodes_if false x xs = refl

module _ (test : Event Term → Bool) where
  nodes_of_next : (x : LocatedEvent) (os : List LocatedEvent) → nodes_where test (x ∷ os) ≡ (if test x.event then x.node ∷ nodes_where test os else nodes_where test os)
  nodes_of_next x os = nodes_if (test x.event) x (filter (λ o. test o.event) os)

  in_nodes : (os : List LocatedEvent) (o : LocatedEvent) → IsIn o os → test o.event ≡ true → IsIn o.node (nodes_where test os)
  in_nodes [] o m e = elim m [ ]
  in_nodes (x ∷ os) o here e = subst (IsIn o.node) (sym (nodes_of_next o os)) (in_if_here (test o.event) o.node (nodes_where test os) e)
  in_nodes (x ∷ os) o (there m) e = subst (IsIn o.node) (sym (nodes_of_next x os)) (in_if_behind (test x.event) x.node o.node (nodes_where test os) (in_nodes os o m e))

  record IsNodeWhere (os : List LocatedEvent) (n : Node) : Type 0 where
    occurrence : LocatedEvent
    listed : IsIn occurrence os
    passes : test occurrence.event ≡ true
    same : occurrence.node ≡ n

  of_nodes : (os : List LocatedEvent) (n : Node) → IsIn n (nodes_where test os) → IsNodeWhere os n
  of_nodes [] n m = elim m [ ]
  of_nodes (o ∷ os) n m = elim (of_if (test o.event) o.node n (nodes_where test os) (subst (IsIn n) (nodes_of_next o os) m)) as (λ _. IsNodeWhere (o ∷ os) n) [
    | inl h ↦ record { occurrence = o; listed = here; passes = h.0; same = h.1 }
    | inr i ↦ let r = of_nodes os n i in record { occurrence = r.occurrence; listed = there r.listed; passes = r.passes; same = r.same }
  ]

  among_all : (os : List LocatedEvent) (n : Node) → IsIn n (nodes_where test os) → IsIn n (map node_of os)
  among_all [] n m = elim m [ ]
  among_all (o ∷ os) n m = elim (of_if (test o.event) o.node n (nodes_where test os) (subst (IsIn n) (nodes_of_next o os) m)) as (λ _. IsIn n (map node_of (o ∷ os))) [
    | inl h ↦ subst (λ (x : Node). IsIn x (map node_of (o ∷ os))) h.1 here
    | inr i ↦ there (among_all os n i)
  ]

  rise_if : (b : Bool) (x : Node) (ns : List Node) → ((n : Node) → IsIn n ns → IsListedBefore x n) → AreRising ns → AreRising (if b then x ∷ ns else ns)
  rise_if true x ns f r = (f, r)
  rise_if false x ns f r = r

  nodes_rise : (os : List LocatedEvent) → AreRising (map node_of os) → AreRising (nodes_where test os)
  nodes_rise [] r = tt
  nodes_rise (o ∷ os) r = subst AreRising (sym (nodes_of_next o os)) (rise_if (test o.event) o.node (nodes_where test os) (λ n i. r.0 n (among_all os n i)) (nodes_rise os r.1))

-- ---- pairs of nodes

rise_both : (ps qs : List OrderPair) → AreRisingPairs ps → AreRisingPairs qs → ((p q : OrderPair) → IsIn p ps → IsIn q qs → IsLowerPair p q) → AreRisingPairs (ps ++ qs)
rise_both [] qs r s apart = s
rise_both (p ∷ ps) qs r s apart = (
  λ q i. elim (in_append ps qs i) as (λ _. IsLowerPair p q) [ inl j ↦ r.0 q j | inr j ↦ apart p q here j ],
  rise_both ps qs r.1 s (λ x y i j. apart x y (there i) j),
)

module _ (order : List OrderPair) where
  abbrev to : Node → Reception
  to = gathered order

  abbrev all_to : List Node → List Reception
  all_to = map to

  in_from : (x y : Node) (ys : List Node) → IsIn y ys → leads_across x (to y) ≡ true → IsIn (record { earlier = x; later = y }) (pairs_to_receptions x (all_to ys))
  in_from x y [] m e = elim m [ ]
  in_from x y (z ∷ ys) here e = in_if_here (leads_across x (to y)) (record { earlier = x; later = y }) (pairs_to_receptions x (all_to ys)) e
  in_from x y (z ∷ ys) (there m) e = in_if_behind (leads_across x (to z)) (record { earlier = x; later = z }) (record { earlier = x; later = y }) (pairs_to_receptions x (all_to ys)) (in_from x y ys m e)

  record IsFrom (x : Node) (ys : List Node) (q : OrderPair) : Type 0 where
    first : x ≡ q.earlier
    listed : IsIn q.later ys
    leads : leads_across x (to q.later) ≡ true

  of_from : (x : Node) (ys : List Node) (q : OrderPair) → IsIn q (pairs_to_receptions x (all_to ys)) → IsFrom x ys q
  of_from x [] q m = elim m [ ]
  of_from x (y ∷ ys) q m = elim (of_if (leads_across x (to y)) (record { earlier = x; later = y }) q (pairs_to_receptions x (all_to ys)) m) as (λ _. IsFrom x (y ∷ ys) q) [
    | inl h ↦
        subst (λ (z : OrderPair). IsFrom x (y ∷ ys) z) h.1 (record { first = refl; listed = here; leads = h.0 })
    | inr i ↦ let r = of_from x ys q i in record { first = r.first; listed = there r.listed; leads = r.leads }
  ]

  rise_if_from : (b : Bool) (p : OrderPair) (ps : List OrderPair) → ((q : OrderPair) → IsIn q ps → IsLowerPair p q) → AreRisingPairs ps → AreRisingPairs (if b then p ∷ ps else ps)
  rise_if_from true p ps f r = (f, r)
  rise_if_from false p ps f r = r

  from_rises : (x : Node) (ys : List Node) → AreRising ys → AreRisingPairs (pairs_to_receptions x (all_to ys))
  from_rises x [] r = tt
  from_rises x (y ∷ ys) r =
      rise_if_from (leads_across x (to y)) (record { earlier = x; later = y }) (pairs_to_receptions x (all_to ys))
      (λ q i. let f = of_from x ys q i in inr (f.first, r.0 q.later f.listed)) (from_rises x ys r.1)

  in_between : (x y : Node) (xs ys : List Node) → IsIn x xs → IsIn y ys → leads_across x (to y) ≡ true → IsIn (record { earlier = x; later = y }) (pairs_between xs (all_to ys))
  in_between x y [] ys m n e = elim m [ ]
  in_between x y (z ∷ xs) ys here n e = in_append_left (pairs_between xs (all_to ys)) (in_from x y ys n e)
  in_between x y (z ∷ xs) ys (there m) n e = in_append_right (pairs_to_receptions z (all_to ys)) (in_between x y xs ys m n e)

  record IsBetweenThese (xs ys : List Node) (q : OrderPair) : Type 0 where
    first : IsIn q.earlier xs
    last : IsIn q.later ys
    leads : leads_across q.earlier (to q.later) ≡ true

  of_between : (xs ys : List Node) (q : OrderPair) → IsIn q (pairs_between xs (all_to ys)) → IsBetweenThese xs ys q
  of_between [] ys q m = elim m [ ]
  of_between (x ∷ xs) ys q m = elim (in_append (pairs_to_receptions x (all_to ys)) (pairs_between xs (all_to ys)) m) as (λ _. IsBetweenThese (x ∷ xs) ys q) [
    | inl i ↦
        let f = of_from x ys q i in
        record {
          first = subst (λ (z : Node). IsIn z (x ∷ xs)) f.first here;
          last = f.listed;
          leads = subst (λ (z : Node). leads_across z (to q.later) ≡ true) f.first f.leads;
        }
    | inr i ↦ let r = of_between xs ys q i in record { first = there r.first; last = r.last; leads = r.leads }
  ]

  between_rises : (xs ys : List Node) → AreRising xs → AreRising ys → AreRisingPairs (pairs_between xs (all_to ys))
  between_rises [] ys r s = tt
  between_rises (x ∷ xs) ys r s =
      rise_both (pairs_to_receptions x (all_to ys)) (pairs_between xs (all_to ys)) (from_rises x ys s) (between_rises xs ys r.1 s)
      (λ p q i j.
      let f : x ≡ p.earlier = (of_from x ys p i).first in
      inl (subst (λ (z : Node). IsListedBefore z q.earlier) f (r.0 q.earlier (of_between xs ys q j).first)))

-- what the test says
across_says : (x : Node) (y : Reception) → leads_across x y ≡ true → (x.strand ≢ y.node.strand) × ReachesAlong y.leading.pairs x y.leading.node
across_says x y e =
    let both = and_parts (not (x.strand == y.node.strand)) (reaches_within (length y.leading.pairs) y.leading.pairs x y.leading.node) e in
    (apart x.strand y.node.strand both.0, (bounded_search (length y.leading.pairs) y.leading.pairs x y.leading.node refl).0 both.1)
  where
    apart : (s t : ℕ) → not (s == t) ≡ true → s ≢ t
    apart s t h same = grind (arith, nat_tests)

says_across : (x : Node) (y : Reception) → x.strand ≢ y.node.strand → ReachesAlong y.leading.pairs x y.leading.node → leads_across x y ≡ true
says_across x y h l =
    and_from (not (x.strand == y.node.strand)) (reaches_within (length y.leading.pairs) y.leading.pairs x y.leading.node) (apart x.strand y.node.strand h)
    ((bounded_search (length y.leading.pairs) y.leading.pairs x y.leading.node refl).1 l)
  where
    apart : (s t : ℕ) → s ≢ t → not (s == t) ≡ true
    apart s t ne = grind (arith, nat_tests)

pub leads_as_test : (x : Node) (y : Reception) (leads : Bool) → x.strand ≢ y.node.strand → (leads ≡ true) ↔ ReachesAlong y.leading.pairs x y.leading.node → leads ≡ leads_across x y
leads_as_test x y leads h l = same_from_decides leads (leads_across x y) l (λ e. (across_says x y e).1, says_across x y h)

-- ---- all pairs of the order

sent_is : (e : Event Term) → is_transmission e ≡ true → (t : Term) × (e ≡ send t)
sent_is (send t) h = (t, refl)
sent_is (recv t) h = absurd (cc)

received_is : (e : Event Term) → is_reception e ≡ true → (t : Term) × (e ≡ recv t)
received_is (recv t) h = (t, refl)
received_is (send t) h = absurd (cc)

module _ (k : Skeleton) (ordered : IsOrdered k) (os : List LocatedEvent) (all : os ≡ events_of k) where
  abbrev sent : List Node
  sent = nodes_where is_transmission os

  abbrev received : List Node
  received = nodes_where is_reception os

  abbrev listed : List OrderPair
  listed = pairs_between sent (map (gathered k.pairs) received)

  event_of : (o : LocatedEvent) → IsIn o os → term_event_at k.strands o.node ≡ Some o.event
  event_of o i = listed_event k o (subst (IsIn o) all i)

  node_sent : (n : Node) → IsIn n sent → (t : Term) × (term_event_at k.strands n ≡ Some (send t))
  node_sent n i =
      let r = of_nodes is_transmission os n i in
      let s = sent_is r.occurrence.event r.passes in
      (s.0, subst (λ (z : Node). term_event_at k.strands z ≡ Some (send s.0)) r.same (event_of r.occurrence r.listed ∙ ap Some s.1))

  node_received : (n : Node) → IsIn n received → (t : Term) × (term_event_at k.strands n ≡ Some (recv t))
  node_received n i =
      let r = of_nodes is_reception os n i in
      let s = received_is r.occurrence.event r.passes in
      (s.0, subst (λ (z : Node). term_event_at k.strands z ≡ Some (recv s.0)) r.same (event_of r.occurrence r.listed ∙ ap Some s.1))

  found : (test : Event Term → Bool) (n : Node) (e : Event Term) → term_event_at k.strands n ≡ Some e → test e ≡ true → IsIn n (nodes_where test os)
  found test n e at h =
      in_nodes test os (located_event_at k n e) (subst (IsIn (located_event_at k n e)) (sym all) (listed_at k n e at)) h

  is_before : (x y : Node) → x.strand ≢ y.strand → (x ≡ y) ⊎ Before k x y → Before k x y
  is_before x y h (inl e) = absurd (h (ap (λ (n : Node). n.strand) e))
  is_before x y h (inr b) = b

  of_order : (q : OrderPair) → IsIn q listed → IsPairOfOrder k q
  of_order q i =
      let b = of_between k.pairs sent received q i in
      let s = node_sent q.earlier b.first in
      let r = node_received q.later b.last in
      let a = across_says q.earlier (gathered k.pairs q.later) b.leads in
      record {
        pair = record { sent = s.0; received = r.0; transmission = s.1; reception = r.1; between_strands = a.0 };
        ordered = is_before q.earlier q.later a.0 (leads_before k ordered.order_pairs q.earlier q.later (recv r.0, r.1) a.1);
      }

  order_of : (q : OrderPair) → IsPairOfOrder k q → IsIn q listed
  order_of q h =
      in_between k.pairs q.earlier q.later sent received (found is_transmission q.earlier (send h.pair.sent) h.pair.transmission refl)
      (found is_reception q.later (recv h.pair.received) h.pair.reception refl)
      (says_across q.earlier (gathered k.pairs q.later) h.pair.between_strands (before_leads k q.earlier q.later h.ordered))

  events_rise : AreRising (map node_of os)
  events_rise = subst (λ es. AreRising (map node_of es)) (sym all) (all_rise 0 k.strands)

  pub lists_order : ListsOrder k listed
  lists_order = record {
    each = λ q. (of_order q, order_of q);
    rising = between_rises k.pairs sent received (nodes_rise is_transmission os events_rise) (nodes_rise is_reception os events_rise);
  }

-- The same of what the program gathers.
pub lists_gathered : (k : Skeleton) (ordered : IsOrdered k) (os : List LocatedEvent) → os ≡ events_of k → (order pairs : List OrderPair) (froms : List Node) (tos : List Reception) → order ≡ k.pairs
    → froms ≡ nodes_where is_transmission os → tos ≡ map (gathered order) (nodes_where is_reception os) → pairs ≡ pairs_between froms tos → ListsOrder k pairs
lists_gathered k ordered os all order pairs froms tos o f t p =
    let all_received : tos ≡ map (gathered k.pairs) (nodes_where is_reception os) = t ∙ (λ i. map (gathered (o i)) (nodes_where is_reception os)) in
    let same : pairs ≡ pairs_between (nodes_where is_transmission os) (map (gathered k.pairs) (nodes_where is_reception os)) = p ∙ (λ i. pairs_between (f i) (all_received i)) in
    subst (ListsOrder k) (sym same) (lists_order k ordered os all)
