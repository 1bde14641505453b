use Rattle.std.proofs.Common.{map}
use Rattle.cp_sexpr.specs.View.{view}
use Rattle.cp_roles.proofs.Maplets.{maplets-taken}
use Rattle.cp_roles.proofs.faults.maplets_faults.Goals as goal

pub loop-number-preserved : goal.loop-number-preserved
loop-number-preserved c =
    maplets-taken c.args.role.now c.args.height c.args.variables.now c.args.maplets.now c.loop-number.number c.index-maplets-number.result c.loop-number-test.true c.index-maplets-number.is
    (map view c.first_items.result.now) c.loop-number.first c.maplet_faults.new.first _ c.first_items.ensures c.maplet_faults.ensures c.loop-number.invariant
