use Rattle.std.proofs.Common.{◌≡◌, ◌<◌, ◌∙◌, ap, Some, None, arith, rules}
use Rattle.cp_lists.specs.Lists.{item_at}
use Rattle.cp_model.specs.Term.{apply_to}
use Rattle.cp_model.specs.Values.{substitution_by}
use Rattle.cp_model.specs.Strand.{event_map}
use Rattle.cp_lists.proofs.Collected.{ok_mapped}
use Rattle.cp_strand.proofs.InstanceTraces.{instance_event_is, no_instance_event}
use Rattle.cp_strand.proofs.events.instance_event.Goals as goal

pub returns-in-Some : goal.returns-in-Some
returns-in-Some c =
    let i = c.args.instance.now in
    let e = c.in-Some.event.now in
    let own : c.trace.result.now ≡ i.role.trace = c.trace.ensures ∙ ap (λ r. r.trace) (c.deref.ensures ∙ c.role.ensures) in
    let height : c.height.result ≡ i.height = c.height.ensures in
    let below : c.args.index < i.height = omega (arith, height, c.if-index-height.false) in
    let there_is : Some e ≡ item_at c.trace.result.now c.args.index = c.in-Some.ensures in
    ok_mapped c.applied_event.result c.map.result c.applied_event.ensures c.map.ensures.cases
    (λ x is y some.
    let made : y ≡ Some x = search rules in
    made ∙ instance_event_is i c.trace.result.now c.args.index e x own below there_is (is ∙ ap (λ ts. event_map (apply_to (substitution_by ts)) e) c.values.ensures))

pub returns-in-None : goal.returns-in-None
returns-in-None c =
    let i = c.args.instance.now in
    let own : c.trace.result.now ≡ i.role.trace = c.trace.ensures ∙ ap (λ r. r.trace) (c.deref.ensures ∙ c.role.ensures) in
    let none : None ≡ item_at c.trace.result.now c.args.index = c.in-None.ensures in
    no_instance_event i c.trace.result.now c.args.index own none
