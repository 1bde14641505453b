use Rattle.std.proofs.Common.{◌++◌, ◌∷◌, [], drop, take, refl, sym, subst, ap, ◌∙◌}
use Rattle.cp_model.proofs.CarriedParts.{not_both}
use Rattle.cp_model.specs.Derivable.{DerivableAt}
use Rattle.cp_model.specs.Skeleton.{IsNodeOf}
use Rattle.cp_skel.specs.Events.{events_of}
use Rattle.cp_derive.specs.Given.{IsDerivable}
use Rattle.cp_derive.specs.Picked.{Picks}
use Rattle.cp_derive.proofs.ByStrand.{range_among}
use Rattle.cp_derive.proofs.VisitedEvents.{none_visited, all_visited, other_passed, node_there, derivable_passed, underivable_taken}
use Rattle.cp_derive.proofs.receptions.unrealised_between.Goals as goal

pub loop-occurrence-init : goal.loop-occurrence-init
loop-occurrence-init c =
    let k = c.args.known_before.skeleton in
    let os = c.split_at-2.result.1.now in
    none_visited k os c.new-nodes.result.items c.new-nodes.ensures.items
    (range_among k c.events.result.now c.split_at.result.0.now os c.args.start c.args.end (c.events.ensures ∙ ap events_of c.survey-survey.ensures) c.split_at.ensures.front c.split_at-2.ensures.back)

pub loop-occurrence-preserved-in_default : goal.loop-occurrence-preserved-in_default
loop-occurrence-preserved-in_default c =
    other_passed _ _ _ _ _ c.loop-occurrence.invariant c.occurrence-item.result c.loop-occurrence-test.true c.occurrence-item.is
    (λ m e. c.in_default.not-Receive m (c.event.ensures ∙ e))

pub move_to-requires : goal.move_to-requires
move_to-requires c = record {
  there = subst (IsNodeOf c.loop-occurrence.known_before.skeleton.strands) (sym c.node-at.ensures)
      (node_there _ _ _ _ _ c.loop-occurrence.invariant c.occurrence-item.result c.loop-occurrence-test.true c.occurrence-item.is
      c.in-Receive.message (sym c.event.ensures ∙ c.in-Receive.is));
}

pub loop-occurrence-preserved-then-derives_at_once : goal.loop-occurrence-preserved-then-derives_at_once
loop-occurrence-preserved-then-derives_at_once c =
    let m = c.in-Receive.message in
    derivable_passed _ _ _ _ _ c.loop-occurrence.invariant c.occurrence-item.result c.loop-occurrence-test.true c.occurrence-item.is
    m (sym c.event.ensures ∙ c.in-Receive.is) _ refl
    (subst (λ n. DerivableAt c.loop-occurrence.known_before.skeleton n m) c.node-at.ensures (c.derives_at_once.ensures c.if-derives_at_once.true))

pub loop-occurrence-preserved-then-buildable : goal.loop-occurrence-preserved-then-buildable
loop-occurrence-preserved-then-buildable c =
    let m = c.in-Receive.message in
    let derivable : DerivableAt c.loop-occurrence.known_before.skeleton c.node-at.result m =
    (c.in_ok-known_before.ensures.at_node m).1 (subst (λ g. IsDerivable g m) c.known.ensures (c.buildable.ensures.exact.0 c.if-buildable.true)) in
    derivable_passed _ _ _ _ _ c.loop-occurrence.invariant c.occurrence-item.result c.loop-occurrence-test.true c.occurrence-item.is
    m (sym c.event.ensures ∙ c.in-Receive.is) _ c.in_ok-known_before.ensures.skeleton
    (subst (λ n. DerivableAt c.loop-occurrence.known_before.skeleton n m) c.node-at.ensures derivable)

pub loop-occurrence-preserved : goal.loop-occurrence-preserved
loop-occurrence-preserved c =
    let m = c.in-Receive.message in
    underivable_taken _ _ _ _ _ c.loop-occurrence.invariant c.occurrence-item.result c.loop-occurrence-test.true c.occurrence-item.is
    m (sym c.event.ensures ∙ c.in-Receive.is) _ c.in_ok-known_before.ensures.skeleton
    c.push.new.self.items (c.in_ok-push.ensures.items ∙ ap (λ n. c.loop-occurrence.nodes.items ++ n ∷ []) c.node-at.ensures)
    (λ d.
    let derivable : DerivableAt c.loop-occurrence.known_before.skeleton c.node-at.result m =
    subst (λ n. DerivableAt c.loop-occurrence.known_before.skeleton n m) (sym c.node-at.ensures) d in
    not_both c.if-buildable.false (c.buildable.ensures.exact.1 (subst (λ g. IsDerivable g m) (sym c.known.ensures) ((c.in_ok-known_before.ensures.at_node m).0 derivable))))

pub returns : goal.returns
returns c =
    let k = c.args.known_before.skeleton in
    let os = c.split_at-2.result.1.now in
    let all : Picks k os c.loop-occurrence.nodes.items = all_visited _ _ _ _ _ c.loop-occurrence.invariant c.loop-occurrence-test.false in
    record {
      picks = subst (λ xs. Picks k xs c.loop-occurrence.nodes.items)
          (c.split_at-2.ensures.back ∙ ap (drop c.args.start) (c.split_at.ensures.front ∙ ap (take c.args.end) (c.events.ensures ∙ ap events_of c.survey-survey.ensures))) all;
      skeleton = c.loop-occurrence.invariant.skeleton;
    }
