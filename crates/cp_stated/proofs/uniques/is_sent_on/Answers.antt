use Rattle.std.proofs.Common.{map, sym, ap, ap₂, ◌∙◌}
use Rattle.std.specs.Prelude.{Some}
use Rattle.cp_lists.specs.Lists.{item_at}
use Rattle.cp_model.specs.Term.{Substitution, apply_to}
use Rattle.cp_model.specs.Strand.{event_map, prefix_of}
use Rattle.cp_model.specs.Homomorphism.{substitution_by}
use Rattle.cp_model.proofs.DeclaredTerms.{bindings_are}
use Rattle.cp_report.specs.Skeletons.{carries_value}
use Rattle.cp_stated.proofs.Among.{sent-there, none-sent}
use Rattle.cp_stated.proofs.uniques.is_sent_on.Goals as goal

pub returns-in-Some : goal.returns-in-Some
returns-in-Some c =
    let i = c.args.instance.now in
    let v = c.args.value.now in
    let e = c.in-Some.event.now in
    c.is_sent_by.ensures ∙ ap (λ ts. carries_value v (Some (event_map (apply_to (substitution_by ts)) e))) c.values.ensures
    ∙ sent-there (event_map (apply_to (substitution_by i.values))) c.prefix_of.result.now (prefix_of i.role i.height) c.args.index e v
    (c.prefix_of.ensures ∙ ap₂ prefix_of (c.deref.ensures ∙ c.role.ensures) c.height.ensures) c.in-Some.ensures
    ∙ sym (ap (λ (s : Substitution). carries_value v (item_at (map (event_map (apply_to s)) (prefix_of i.role i.height)) c.args.index)) (bindings_are i.values))

pub returns-in-None : goal.returns-in-None
returns-in-None c =
    let i = c.args.instance.now in
    none-sent (event_map (apply_to (substitution_by i.values))) c.prefix_of.result.now (prefix_of i.role i.height) c.args.index c.args.value.now
    (c.prefix_of.ensures ∙ ap₂ prefix_of (c.deref.ensures ∙ c.role.ensures) c.height.ensures) c.in-None.ensures
    ∙ sym (ap (λ (s : Substitution). carries_value c.args.value.now (item_at (map (event_map (apply_to s)) (prefix_of i.role i.height)) c.args.index)) (bindings_are i.values))
