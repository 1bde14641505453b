use Rattle.std.proofs.Common.{◌∙◌}
use Rattle.cp_sexpr.specs.View.{view}
use Rattle.cp_spelled.proofs.Noted.{pattern-noted, locals-noted}
use Rattle.cp_spelled.proofs.patterns.misfits_and_locals.Goals as goal

pub returns-clause-misfits : goal.returns-clause-misfits
returns-clause-misfits c =
    pattern-noted c.args.variables.now (view c.args.form.now) c.deref.result.now c.in_ok-locals.locals c.args.first.now c.locals_of.new.first c.note_unless.new.self c.term_misfits.new.first
    c.has_head.result c.place_of.result (c.deref.ensures.value ∙ c.in_ok-found.ensures) c.in_ok-locals.ensures.locals c.has_head.ensures c.place_of.ensures
    c.in_ok-locals.ensures.misfits c.note_unless.ensures c.term_misfits.ensures

pub returns-clause-locals : goal.returns-clause-locals
returns-clause-locals c =
    locals-noted c.args.variables.now (view c.args.form.now) c.deref.result.now c.in_ok-locals.locals (c.deref.ensures.value ∙ c.in_ok-found.ensures) c.in_ok-locals.ensures.locals
