use Rattle.std.proofs.Common.{rules, ◌≡◌, ◌∙◌, ap, map}
use Rattle.std.proofs.lemmas.Result.{IfOk-weaker}
use Rattle.cp_model.specs.Term.{apply_to}
use Rattle.cp_model.specs.Values.{substitution_by}
use Rattle.cp_model.specs.Strand.{event_map, prefix_of}
use Rattle.cp_lists.proofs.Collected.{collected_plain}
use Rattle.cp_strand.proofs.InstanceTraces.{all_instance_events}
use Rattle.cp_strand.proofs.events.instance_events.Goals as goal

pub returns : goal.returns
returns c =
    let i = c.args.instance.now in
    let es = c.prefix_of.result.now in
    let role : c.deref.result.now ≡ i.role = c.deref.ensures ∙ c.role.ensures in
    let own : es ≡ prefix_of i.role i.height = c.prefix_of.ensures ∙ ap (λ r. prefix_of r c.height.result) role ∙ ap (prefix_of i.role) c.height.ensures in
    IfOk-weaker c.try_collect.result _ _
    (λ v made. all_instance_events i es v.items own (made ∙ ap (λ ts. map (event_map (apply_to (substitution_by ts))) es) c.values-values.ensures))
    (collected_plain (event_map (apply_to (substitution_by c.values-values.result.now))) es c.try_collect.result (λ x y q k. search rules) c.try_collect.ensures.runs c.map.ensures.runs c.iter.ensures.runs c.iter.ensures.rest)
