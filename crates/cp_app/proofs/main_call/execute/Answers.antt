use Rattle.std.proofs.Common.{◌≡◌, ◌∙◌, Some, subst, sym, true, map, string_bytes}
use Rattle.cp_words.specs.declared.command.Command.{Command}
use Rattle.cp_words.proofs.Commands.{few_problems}
use Rattle.cp_app.specs.Commands.{reads}
use Rattle.cp_app.specs.Steps.{HasEnded}
use Rattle.cp_app.proofs.main_call.execute.Goals as goal

pub answer-requires : goal.answer-requires
answer-requires g c = record { few = few_problems (map string_bytes c.args.words.now) c.in-Ok.command c.in-Ok.ensures.command }

pub returns-in-Ok-clause-executed : goal.returns-in-Ok-clause-executed
returns-in-Ok-clause-executed g c = λ command input named is.
    let both : Some c.in-Ok.command ≡ Some command = sym c.in-Ok.ensures.command ∙ named in
    let same : c.in-Ok.command ≡ command = cc in
    subst (λ (d : Command). (reads d.name ≡ true → g.S.Source.left c.args.source.now ≡ Some input) → HasEnded d input (g.S.Source.left c.answer.new.source) (g.O.Sink.held c.args.out.now) (g.O.Sink.held c.answer.new.out) c.answer.result) same
    (c.answer.ensures.ended input) is
