use Rattle.std.proofs.Common.{map, ap, ◌∙◌}
use Rattle.cp_sexpr.specs.View.{view}
use Rattle.cp_language.specs.Roles.{event_faults}
use Rattle.cp_scope.specs.FirstFault.{first_onto}
use Rattle.cp_scope.proofs.Items.{each-taken, each-done}
use Rattle.cp_roles.proofs.EventFaults.{each-event}
use Rattle.cp_roles.proofs.events.events_faults.Goals as goal

pub loop-item-preserved : goal.loop-item-preserved
loop-item-preserved c =
    each-taken (event_faults c.args.variables.now) c.args.items.now c.loop-item.item-index c.item-item.result c.loop-item-test.true c.item-item.is
    c.loop-item.first c.event_faults.new.first _ c.event_faults.ensures c.loop-item.invariant

pub returns : goal.returns
returns c =
    let ds = c.args.variables.now in
    each-done (event_faults ds) c.args.items.now c.loop-item.item-index c.loop-item-test.false c.loop-item.first _ c.loop-item.invariant
    ∙ ap (first_onto c.args.first.now) (each-event ds (map view c.args.items.now))
