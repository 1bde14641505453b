use Rattle.std.proofs.Common.{ap, ◌∙◌, ◌≡◌, sym, subst}
use Rattle.std.specs.Prelude.{◌↔◌, IsTrue}
use Rattle.cp_lists.specs.Lists.{IsIn}
use Rattle.cp_model.proofs.CarriedParts.{not_both}
use Rattle.cp_model.specs.Derivable.{DerivableAt}
use Rattle.cp_model.specs.Strand.{payload}
use Rattle.cp_model.specs.Term.{Term}
use Rattle.cp_skel.specs.Events.{events_of}
use Rattle.cp_derive.specs.AtNode.{SkeletonNode}
use Rattle.cp_derive.specs.Given.{IsDerivable}
use Rattle.cp_cohort.specs.CoveringChildren.{IsTransmissionBefore}
use Rattle.cp_escape.specs.ClosedEncryptions.{AreClosedBefore, without_it}
use Rattle.cp_escape.proofs.Before.{GivesEvent, listed_among, event_given, sent_is_derivable, all_closed}
use Rattle.cp_escape.proofs.TermsOnce.{puts_next, puts_none, puts_last}
use Rattle.cp_escape.proofs.escape_set.closed_before.Goals as goal

pub loop-occurrence-preserved-then-not-is_sent_before : goal.loop-occurrence-preserved-then-not-is_sent_before
loop-occurrence-preserved-then-not-is_sent_before c =
    let t = c.args.test.now in
    let sent : IsTrue c.is_sent_before.result ↔ IsTransmissionBefore t.skeleton t.node c.occurrence-item.result =
    subst (λ (n : SkeletonNode). IsTrue c.is_sent_before.result ↔ IsTransmissionBefore n.skeleton n.node c.occurrence-item.result) c.at-place.ensures c.is_sent_before.ensures in
    puts_none (GivesEvent t.skeleton t.node c.known-known.result.now c.critical-critical.result.now) c.events-occurrences.result.now c.loop-occurrence.occurrence-index c.occurrence-item.result
    c.loop-occurrence-test.true c.occurrence-item.is _ _ c.loop-occurrence.invariant (without_it (λ b. not_both c.if-not-is_sent_before.true (sent.1 b)))

pub add_closed-requires : goal.add_closed-requires
add_closed-requires c =
    let t = c.args.test.now in
    let o = c.occurrence-item.result in
    let sent : IsTrue c.is_sent_before.result ↔ IsTransmissionBefore t.skeleton t.node o =
    subst (λ (n : SkeletonNode). IsTrue c.is_sent_before.result ↔ IsTransmissionBefore n.skeleton n.node o) c.at-place.ensures c.is_sent_before.ensures in
    let given : (u : Term) → IsDerivable c.known-known.result.now u ↔ DerivableAt t.skeleton t.node u =
    subst (λ (n : SkeletonNode). (u : Term) → IsDerivable c.known-known.result.now u ↔ DerivableAt n.skeleton n.node u) c.at-place.ensures c.known-known.ensures in
    let all : c.events-occurrences.result.now ≡ events_of t.skeleton = c.events-occurrences.ensures ∙ ap (λ (n : SkeletonNode). events_of n.skeleton) c.at-place.ensures in
    let listed : IsIn o (events_of t.skeleton) = listed_among t.skeleton c.events-occurrences.result.now c.loop-occurrence.occurrence-index o c.loop-occurrence-test.true c.occurrence-item.is all in
    record {
      derivable = subst (IsDerivable c.known-known.result.now) (sym (c.payload-message.ensures ∙ ap payload c.event.ensures)) ((given (payload o.event)).1 (sent_is_derivable t.skeleton t.node o listed (sent.0 c.if-not-is_sent_before.false)));
      underivable = λ d. c.is_test.ensures.underivable (subst (DerivableAt t.skeleton t.node) c.critical-critical.ensures ((given c.critical-critical.result.now).0 d));
    }

pub loop-occurrence-preserved : goal.loop-occurrence-preserved
loop-occurrence-preserved c =
    let t = c.args.test.now in
    let sent : IsTrue c.is_sent_before.result ↔ IsTransmissionBefore t.skeleton t.node c.occurrence-item.result =
    subst (λ (n : SkeletonNode). IsTrue c.is_sent_before.result ↔ IsTransmissionBefore n.skeleton n.node c.occurrence-item.result) c.at-place.ensures c.is_sent_before.ensures in
    puts_next (GivesEvent t.skeleton t.node c.known-known.result.now c.critical-critical.result.now) c.events-occurrences.result.now c.loop-occurrence.occurrence-index c.occurrence-item.result
    c.loop-occurrence-test.true c.occurrence-item.is _ _ c.loop-occurrence.invariant _
    (event_given t.skeleton t.node c.known-known.result.now c.critical-critical.result.now c.occurrence-item.result c.payload-message.result.now (c.payload-message.ensures ∙ ap payload c.event.ensures)
    (sent.0 c.if-not-is_sent_before.false) _ _ c.in_ok-add_closed.ensures)

pub returns : goal.returns
returns c =
    let t = c.args.test.now in
    let given : (u : Term) → IsDerivable c.known-known.result.now u ↔ DerivableAt t.skeleton t.node u =
    subst (λ (n : SkeletonNode). (u : Term) → IsDerivable c.known-known.result.now u ↔ DerivableAt n.skeleton n.node u) c.at-place.ensures c.known-known.ensures in
    let all : c.events-occurrences.result.now ≡ events_of t.skeleton = c.events-occurrences.ensures ∙ ap (λ (n : SkeletonNode). events_of n.skeleton) c.at-place.ensures in
    subst (λ (u : Term). AreClosedBefore t.skeleton t.node u c.loop-occurrence.encryptions.items) c.critical-critical.ensures
    (all_closed t.skeleton t.node c.known-known.result.now given c.critical-critical.result.now c.events-occurrences.result.now all _
    (puts_last (GivesEvent t.skeleton t.node c.known-known.result.now c.critical-critical.result.now) c.events-occurrences.result.now c.loop-occurrence.occurrence-index
    c.loop-occurrence-test.false _ _ c.loop-occurrence.invariant))
