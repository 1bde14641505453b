use Rattle.std.proofs.Common.{subst, sym, ◌∙◌}
use Rattle.cp_model.specs.Pattern.{IsPattern}
use Rattle.cp_sexpr.specs.View.{view}
use Rattle.cp_report.specs.Spelled.{pattern_misfits}
use Rattle.cp_spelled.proofs.ReadPatterns.{pattern-is}
use Rattle.cp_spelled.proofs.Made.{fits, unfit, made}
use Rattle.cp_spelled.proofs.patterns.pattern_of.Goals as goal

pub new-requires : goal.new-requires
new-requires c =
    let ds = c.args.variables.now in
    let f = view c.args.form.now in
    subst IsPattern (sym (made ds f c.in_ok-term.term c.in_ok-found.found c.in_ok-locals.locals c.len.result c.as_slice.result.now c.in_ok-locals.ensures.locals
    c.len.ensures c.as_slice.ensures c.in_ok-term.ensures c.in_ok-found.ensures))
    (pattern-is ds f (fits (pattern_misfits ds f) c.new-first.result c.misfits_and_locals.new.first c.is_none.result c.new-first.ensures c.in_ok-locals.ensures.misfits c.is_none.ensures c.if-not-is_none.false))

pub returns : goal.returns
returns c =
    c.new.ensures
    ∙ made c.args.variables.now (view c.args.form.now) c.in_ok-term.term c.in_ok-found.found c.in_ok-locals.locals c.len.result c.as_slice.result.now c.in_ok-locals.ensures.locals
    c.len.ensures c.as_slice.ensures c.in_ok-term.ensures c.in_ok-found.ensures

pub returns-then-not-is_none : goal.returns-then-not-is_none
returns-then-not-is_none c =
    unfit (pattern_misfits c.args.variables.now (view c.args.form.now)) c.new-first.result c.misfits_and_locals.new.first c.is_none.result c.new-first.ensures c.in_ok-locals.ensures.misfits c.is_none.ensures
    c.if-not-is_none.true
