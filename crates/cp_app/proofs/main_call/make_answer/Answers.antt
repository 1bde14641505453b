use Rattle.std.proofs.Common.{◌≡◌, rules, true}
use Rattle.std.proofs.lemmas.Result.{IfOk-weaker}
use Rattle.cp_app.specs.Commands.{reads}
use Rattle.cp_app.proofs.main_call.make_answer.Goals as goal

pub returns-in-Analyse-clause-answer : goal.returns-in-Analyse-clause-answer
returns-in-Analyse-clause-answer g c = λ input is.
    let reading : reads c.args.command.name ≡ true = search rules in
    IfOk-weaker c.make_report.result _ _ (λ answer made. (made.0, λ _. made.1)) (c.make_report.ensures.report input (is reading))
