use Rattle.std.proofs.Common.{◌≡◌, List, refl, sym, ap, ◌∙◌, subst}
use Rattle.cp_model.specs.Skeleton.{Skeleton}
use Rattle.cp_model.specs.Term.{Term}
use Rattle.cp_skel.specs.Events.{LocatedEvent, events_of}
use Rattle.cp_skel.specs.Preceding.{SkeletonNode}
use Rattle.cp_derive.specs.Assumed.{assumed_values}
use Rattle.cp_derive.specs.AtNode.{IsAtNode, AreSentBefore}
use Rattle.cp_derive.specs.Given.{Given}
use Rattle.cp_derive.proofs.SentBefore.{derivable_from_sent}
use Rattle.cp_derive.proofs.at_node.AtNode.of.Goals as goal

pub invariant_of-result : goal.invariant_of-result
invariant_of-result c =
    let k = c.args.listed in
    let at : SkeletonNode = record { skeleton = k; node = c.args.node } in
    let is : c.in_ok-preceding.preceding ≡ at = c.in_ok-preceding.ensures ∙ ap (λ (x : Skeleton). let n : SkeletonNode = record { skeleton = x; node = c.args.node } in n) c.skeleton-k.ensures in
    let are : AreSentBefore at (events_of k) c.in_ok-sent.sent.items =
    subst (λ (os : List LocatedEvent). AreSentBefore at os c.in_ok-sent.sent.items) c.events.ensures
    (subst (λ (n : SkeletonNode). AreSentBefore n c.events.result.now c.in_ok-sent.sent.items) is c.in_ok-sent.ensures) in
    let secrets : c.in_ok-secrets.secrets.items ≡ assumed_values k.assumptions = c.in_ok-secrets.ensures ∙ ap assumed_values (c.assumptions.ensures ∙ ap (λ (x : Skeleton). x.assumptions) c.skeleton-k.ensures) in
    subst (λ (n : SkeletonNode). IsAtNode n k c.in_ok-known.known) (sym is)
    (record {
      same = refl;
      derivable = derivable_from_sent k c.args.node c.in_ok-sent.sent.items are c.in_ok-known.known
          (c.in_ok-known.ensures ∙ ap (λ (xs : List Term). let g : Given = record { sent = c.in_ok-sent.sent.items; secrets = xs } in g) secrets);
    })
