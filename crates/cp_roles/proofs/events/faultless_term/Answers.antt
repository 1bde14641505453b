use Rattle.std.proofs.Common.{true, false}
use Rattle.cp_sexpr.specs.View.{view}
use Rattle.cp_language.specs.Terms.{term_faults, term_of}
use Rattle.cp_roles.proofs.EventFaults.{term_stands}
use Rattle.cp_roles.proofs.events.faultless_term.Goals as goal

pub returns-then-is_none : goal.returns-then-is_none
returns-then-is_none c =
    term_stands true c.term_of.result (term_faults c.args.variables.now (view c.args.form.now)) (term_of c.args.variables.now (view c.args.form.now))
    c.new-faults.result c.term_faults.new.first c.is_none.result c.new-faults.ensures c.term_faults.ensures c.is_none.ensures c.if-is_none.true c.term_of.ensures

pub returns-else-is_none : goal.returns-else-is_none
returns-else-is_none c =
    term_stands false c.no_term.result (term_faults c.args.variables.now (view c.args.form.now)) (term_of c.args.variables.now (view c.args.form.now))
    c.new-faults.result c.term_faults.new.first c.is_none.result c.new-faults.ensures c.term_faults.ensures c.is_none.ensures c.if-is_none.false c.no_term.ensures
