use Rattle.cp_app.proofs.Endings.{stopped_reading, stopped_behind_end}
use Rattle.cp_app.proofs.main_call.make_report.Goals as goal

pub returns-in_err-input-clause-stopped : goal.returns-in_err-input-clause-stopped
returns-in_err-input-clause-stopped g c = λ input is.
    stopped_reading c.args.command c.from_residual.result c.in_err-input.field-0.0 input (g.S.Source.left c.read_all.new.source) c.requires.reads (c.in_err-input.ensures.stopped input is) c.from_residual.ensures.1

pub returns-clause-stopped : goal.returns-clause-stopped
returns-clause-stopped g c = λ input is.
    stopped_behind_end c.args.command c.report_of.result c.in_ok-input.input.items input (g.S.Source.left c.read_all.new.source) c.requires.reads (rw c.deref.ensures.value at c.report_of.ensures.cause) c.in_ok-input.ensures.short
    (c.in_ok-input.ensures.whole input is)
