-- What was sent before the node of a test, and what its occurrences of the critical term give.
use Rattle.std.proofs.Common.{◌≡◌, ℕ, ◌<◌, length, get_or, List, [], Some, sym, ap, ◌∙◌, subst, ◌↔◌}
use Rattle.cp_lists.specs.Lists.{IsIn}
use Rattle.cp_lists.proofs.Members.{item_is_in}
use Rattle.cp_model.specs.Term.{key_term, inverse_term, Term, atom_term}
use Rattle.cp_model.specs.Strand.{payload}
use Rattle.cp_model.specs.declared.node.Node.{Node}
use Rattle.cp_model.specs.Skeleton.{Skeleton}
use Rattle.cp_model.specs.Derivable.{DerivableAt, sent_before}
use Rattle.cp_model.specs.declared.step.Step.{Step}
use Rattle.cp_skel.specs.Events.{LocatedEvent, events_of}
use Rattle.cp_skel.proofs.EventLists.{listed_event, listed_role}
use Rattle.cp_derive.specs.Given.{Given, IsDerivable}
use Rattle.cp_cohort.specs.CoveringChildren.{IsTransmissionBefore}
use Rattle.cp_cohort.specs.GatheredLists.{EachGives}
use Rattle.cp_escape.specs.Escape.{IsFirstWith, in_front, further, IsUnopenedAt, GivesClosed, positions_of}
use Rattle.cp_escape.specs.ClosedEncryptions.{IsClosedTo, GivesClosedTo, PutsTerms, GivesIf, with_it, AreClosedBefore}
use Rattle.cp_escape.proofs.TermsOnce.{given_by_those, gives_other}

-- What was sent is derivable.
pub sent_is_derivable : (k : Skeleton) (n : Node) (o : LocatedEvent) → IsIn o (events_of k) → IsTransmissionBefore k n o → DerivableAt k n (payload o.event)
sent_is_derivable k n o i s =
    let message : payload o.event ≡ s.message = ap payload s.sent in
    subst (DerivableAt k n) (sym message) (sent_before (listed_role k o i s.by_role) (listed_event k o i ∙ ap Some s.sent) s.before)

first_other : {has others : Term → Type 0} → ((t : Term) → has t → others t) → ((t : Term) → others t → has t) → {ts : List Term} {t : Term} → IsFirstWith has ts t → IsFirstWith others ts t
first_other f g (in_front {x = x} h) = in_front (f x h)
first_other f g (further {y = y} n h) = further (λ o. n (g y o)) (first_other f g h)

-- What an event gives.
abbrev pub GivesEvent : Skeleton → Node → Given → Term → LocatedEvent → List Term → Type 0
GivesEvent k n g c = GivesIf (IsTransmissionBefore k n) (λ o. EachGives (GivesClosedTo g (payload o.event)) (positions_of c (payload o.event)))

module _ (k : Skeleton) (n : Node) (g : Given) (given : (t : Term) → IsDerivable g t ↔ DerivableAt k n t) where
  closed_at : (e : Term) → IsClosedTo g e → IsUnopenedAt k n e
  closed_at e c = record { body = c.body; key = c.key; is_encryption = c.is_encryption; underivable = λ d. c.underivable ((given (atom_term (key_term (inverse_term c.key)))).1 d) }

  closed_to : (e : Term) → IsUnopenedAt k n e → IsClosedTo g e
  closed_to e c = record { body = c.body; key = c.key; is_encryption = c.is_encryption; underivable = λ d. c.underivable ((given (atom_term (key_term (inverse_term c.key)))).0 d) }

  gives_at : (message : Term) (path : List Step) (es : List Term) → GivesClosedTo g message path es → GivesClosed k n message path es
  gives_at message path es h = record { encryption = h.encryption; outermost = first_other closed_at closed_to h.outermost; alone = h.alone }

  pub all_closed : (c : Term) (os : List LocatedEvent) → os ≡ events_of k → (es : List Term) → PutsTerms (EachGives (GivesEvent k n g c) os) [] es → AreClosedBefore k n c es
  all_closed c os all es p =
      let each : EachGives (GivesEvent k n g c) (events_of k) p.given = subst (λ (xs : List LocatedEvent). EachGives (GivesEvent k n g c) xs p.given) all p.gives_them in
      let those = given_by_those (IsTransmissionBefore k n) (λ o. EachGives (GivesClosedTo g (payload o.event)) (positions_of c (payload o.event))) (events_of k) p.given each in
      record {
        sent = those.those;
        before = those.picked;
        encryptions = p.given;
        each = gives_other (λ o ys e. gives_other (λ path es h. gives_at (payload o.event) path es h) e) those.each;
        once = p.onto;
      }

-- An event that is read from the list is one of the skeleton's.
pub listed_among : (k : Skeleton) (os : List LocatedEvent) (i : ℕ) (o : LocatedEvent) → i < length os → o ≡ get_or os i o → os ≡ events_of k → IsIn o (events_of k)
listed_among k os i o below read all = subst (λ (xs : List LocatedEvent). IsIn o xs) all (item_is_in os i o below read)

-- What is put for a transmission before the node.
pub event_given : (k : Skeleton) (n : Node) (g : Given) (c : Term) (o : LocatedEvent) (message : Term) → message ≡ payload o.event → IsTransmissionBefore k n o → (old new : List Term) →
    PutsTerms (EachGives (GivesClosedTo g message) (positions_of c message)) old new → PutsTerms (GivesEvent k n g c o) old new
event_given k n g c o message same s old new p = record {
  given = p.given;
  gives_them = with_it s (subst (λ (t : Term). EachGives (GivesClosedTo g t) (positions_of c t) p.given) same p.gives_them);
  onto = p.onto;
}
