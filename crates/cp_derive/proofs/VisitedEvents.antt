-- Events visited one by one, and the unrealised receptions picked of them.
use Rattle.std.proofs.Common.{ℕ, suc, ◌+◌, ◌<◌, ◌≤◌, ◌++◌, length, get_or, drop, append_assoc, arith, List, [], ◌∷◌, Some, ◌≡◌, refl, sym, subst, ap, ◌∙◌}
use Rattle.std.proofs.Math.Seq.{drop-cons}
use Rattle.std.proofs.lemmas.List.{append-nil, drop_all}
use Rattle.cp_lists.proofs.Items.{at_place, item_of_read}
use Rattle.cp_model.specs.Term.{Term}
use Rattle.cp_model.specs.declared.strand.Event.{Event}
use Rattle.cp_model.specs.declared.strand.Event.TheVariants.{Send as send, Receive as recv}
use Rattle.cp_model.specs.declared.node.Node.{Node}
use Rattle.cp_model.specs.Skeleton.{term_event_at, IsNodeOf, Skeleton}
use Rattle.cp_model.specs.Derivable.{DerivableAt}
use Rattle.cp_skel.specs.Events.{LocatedEvent, events_of}
use Rattle.cp_skel.proofs.EventLists.{listed_event}
use Rattle.cp_derive.specs.Picked.{AreEventsAmong, Picks, no_more, picks, passes}
use Rattle.cp_derive.specs.Unrealised.{IsUnrealisedAt, IsRealisedAt}

-- An event that is no reception is realised.
other_realised : (k : Skeleton) (n : Node) (e : Event Term) → term_event_at k.strands n ≡ Some e → ((m : Term) → e ≡ recv m → ⊥) → IsRealisedAt k n
other_realised k n (recv m) at other t r = absurd (other m refl)
other_realised k n (send m) at other t r = absurd (cc)

-- A reception is realised where its message can be derived.
realised_at : (k : Skeleton) (n : Node) (m : Term) → term_event_at k.strands n ≡ Some (recv m) → DerivableAt k n m → IsRealisedAt k n
realised_at k n m at derivable t r = subst (DerivableAt k n) (let e : m ≡ t = cc in e) derivable

-- Those before place i have been visited: what is picked of the rest, behind the nodes so far, is picked of all. What is known
-- by then is known of the skeleton `now`.
pub record AreVisited (k now : Skeleton) (os : List LocatedEvent) (i : ℕ) (nodes : List Node) : Type 0 where
  pub skeleton : now ≡ k
  pub among : AreEventsAmong os (events_of k)
  pub picked : (ns : List Node) → Picks k (drop i os) ns → Picks k os (nodes ++ ns)

pub none_visited : (k : Skeleton) (os : List LocatedEvent) (nodes : List Node) → nodes ≡ [] → AreEventsAmong os (events_of k) → AreVisited k k os 0 nodes
none_visited k os nodes none among = record {
  skeleton = refl;
  among = among;
  picked = λ ns all. subst (λ xs. Picks k os (xs ++ ns)) (sym none) all;
}

module _ (k now : Skeleton) (os : List LocatedEvent) (i : ℕ) (nodes : List Node) (visited : AreVisited k now os i nodes) where
  pub all_visited : length os ≤ i → Picks k os nodes
  all_visited past =
      subst (Picks k os) (append-nil nodes) (visited.picked [] (subst (λ xs. Picks k xs []) (sym (drop_all i os past)) no_more))

  module _ (o : LocatedEvent) (h : i < length os) (is : o ≡ get_or os i o) where
    next_event : drop i os ≡ o ∷ drop (suc i) os
    next_event = drop-cons os i o h ∙ ap (λ (x : LocatedEvent). x ∷ drop (suc i) os) (sym is)

    event_at : term_event_at k.strands o.node ≡ Some o.event
    event_at = listed_event k o (visited.among o (at_place os i o (item_of_read os i o h is)))

    rest_picked : (ns : List Node) → Picks k (drop (i + 1) os) ns → Picks k (drop (suc i) os) ns
    rest_picked ns more = let plus_one : i + 1 ≡ suc i = omega arith in subst (λ j. Picks k (drop j os) ns) plus_one more

    passed : (after : Skeleton) → after ≡ now → IsRealisedAt k o.node → AreVisited k after os (i + 1) nodes
    passed after same none = record {
      skeleton = same ∙ visited.skeleton;
      among = visited.among;
      picked = λ ns more. visited.picked ns (subst (λ xs. Picks k xs ns) (sym next_event) (passes {o = o} none (rest_picked ns more)));
    }

    taken : (after : Skeleton) → after ≡ now → (new : List Node) → new ≡ nodes ++ o.node ∷ [] → IsUnrealisedAt k o.node → AreVisited k after os (i + 1) new
    taken after same new n u = record {
      skeleton = same ∙ visited.skeleton;
      among = visited.among;
      picked = λ ns more.
          let behind : new ++ ns ≡ nodes ++ (o.node ∷ ns) = ap (λ xs. xs ++ ns) n ∙ append_assoc nodes (o.node ∷ []) ns in
          subst (Picks k os) (sym behind)
          (visited.picked (o.node ∷ ns) (subst (λ xs. Picks k xs (o.node ∷ ns)) (sym next_event) (picks {o = o} u (rest_picked ns more))));
    }

    pub other_passed : ((m : Term) → o.event ≡ recv m → ⊥) → AreVisited k now os (i + 1) nodes
    other_passed other = passed now refl (other_realised k o.node o.event event_at other)

    module _ (m : Term) (received : o.event ≡ recv m) where
      reception : term_event_at k.strands o.node ≡ Some (recv m)
      reception = event_at ∙ ap Some received

      pub node_there : IsNodeOf now.strands o.node
      node_there = subst (λ (x : Skeleton). IsNodeOf x.strands o.node) (sym visited.skeleton) (recv m, reception)

      pub derivable_passed : (after : Skeleton) → after ≡ now → DerivableAt now o.node m → AreVisited k after os (i + 1) nodes
      derivable_passed after same derivable =
          passed after same (realised_at k o.node m reception (subst (λ (x : Skeleton). DerivableAt x o.node m) visited.skeleton derivable))

      pub underivable_taken : (after : Skeleton) → after ≡ now → (new : List Node) → new ≡ nodes ++ o.node ∷ [] → (DerivableAt now o.node m → ⊥) → AreVisited k after os (i + 1) new
      underivable_taken after same new n none =
          taken after same new n
          (record { message = m; reception = reception; underivable = λ d. none (subst (λ (x : Skeleton). DerivableAt x o.node m) (sym visited.skeleton) d) })
