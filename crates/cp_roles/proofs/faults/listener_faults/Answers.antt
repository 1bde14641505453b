use Rattle.cp_roles.proofs.Maplets.{listener-read}
use Rattle.cp_roles.proofs.faults.listener_faults.Goals as goal

pub returns : goal.returns
returns c =
    listener-read c.args.variables.now c.args.place c.args.items.now c.in-Some.rest.now c.in-Some.term.now c.args.first.now c.term_faults.new.first c.exceeds.new.first
    c.in-Some.ensures.cases.0 c.term_faults.ensures c.exceeds.ensures
