use Rattle.std.proofs.Common.{[]}
use Rattle.cp_report.specs.Spelled.{term_misfits}
use Rattle.cp_spelled.specs.Views.{scope_view}
use Rattle.cp_spelled.proofs.InOrder.{entry-taken}
use Rattle.cp_stated.proofs.instances.one_term_misfits.Goals as goal

pub returns : goal.returns
returns c =
    entry-taken (term_misfits (scope_view c.args.scope)) [] c.args.place c.args.items.now c.in-Some.rest.now c.in-Some.term.now c.args.first.now c.term_misfits.new.first c.no_more.new.first
    c.in-Some.ensures.cases.0 c.term_misfits.ensures (c.no_more.ensures c.args.place)
