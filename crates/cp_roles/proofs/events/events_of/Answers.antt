use Rattle.std.proofs.Common.{rules, [], map, ap, ◌∙◌}
use Rattle.std.proofs.lemmas.Result.{IfOk-weaker}
use Rattle.cp_sexpr.specs.View.{view}
use Rattle.cp_language.specs.Roles.{headed, event_of, events_in}
use Rattle.cp_lists.proofs.Collected.{collected_from_slice}
use Rattle.cp_roles.proofs.EventFaults.{events_collected}
use Rattle.cp_roles.proofs.events.events_of.Goals as goal

pub returns : goal.returns
returns c =
    let ds = c.args.variables.now in
    let items = c.items_behind.result.now in
    IfOk-weaker c.try_collect.result _ _ (λ v h. events_collected ds items v.items h ∙ ap (events_in ds) c.items_behind.ensures)
    (collected_from_slice (λ e. e) (λ f. event_of ds (headed (view f))) items c.try_collect.result (λ x y q k. search rules) c.try_collect.ensures.runs c.map.ensures.runs c.iter.ensures.runs c.iter.ensures.rest)
