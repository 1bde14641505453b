use Rattle.std.proofs.Common.{[], ◌∷◌}
use Rattle.cp_report.specs.Spelled.{atom_misfits}
use Rattle.cp_report.specs.Skeletons.{node_misfits}
use Rattle.cp_spelled.specs.Views.{scope_view}
use Rattle.cp_spelled.proofs.InOrder.{entry-taken}
use Rattle.cp_stated.proofs.uniques.value_and_node_misfits.Goals as goal

pub returns : goal.returns
returns c =
    entry-taken (atom_misfits (scope_view c.args.scope)) (node_misfits c.args.strands.now ∷ []) c.args.place c.args.items.now c.in-Some.rest.now c.in-Some.value.now
    c.args.first.now c.atom_misfits.new.first c.one_node_misfits.new.first c.in-Some.ensures.cases.0 c.atom_misfits.ensures c.one_node_misfits.ensures
