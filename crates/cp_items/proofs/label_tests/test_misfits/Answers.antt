use Rattle.std.proofs.Common.{[], ◌∷◌}
use Rattle.cp_report.specs.Spelled.{term_misfits}
use Rattle.cp_report.specs.Skeletons.{node_misfits}
use Rattle.cp_spelled.specs.Views.{scope_view}
use Rattle.cp_spelled.proofs.InOrder.{entry-taken}
use Rattle.cp_items.proofs.label_tests.test_misfits.Goals as goal

pub returns : goal.returns
returns c =
    entry-taken (node_misfits c.args.strands.now) (term_misfits (scope_view c.args.scope) ∷ []) c.args.place c.args.items.now c.in-Some.rest.now c.in-Some.node.now
    c.args.first.now c.node_misfits.new.first c.one_term_misfits.new.first c.in-Some.ensures.cases.0 c.node_misfits.ensures c.one_term_misfits.ensures
