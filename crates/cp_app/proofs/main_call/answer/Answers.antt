use Rattle.cp_app.proofs.Endings.{ended_ok, ended_stopped}
use Rattle.cp_app.proofs.main_call.answer.Goals as goal

pub returns-in-Ok-put_answer-clause-ended : goal.returns-in-Ok-put_answer-clause-ended
returns-in-Ok-put_answer-clause-ended g c = λ input is.
    let made = c.in-Ok.ensures.answer input is in
    ended_ok c.args.command input (g.S.Source.left c.make_answer.new.source) (g.O.Sink.held c.args.out.now) (g.O.Sink.held c.put_answer.new.out) c.in-Ok.answer.complete c.outcomes_status.result c.outcomes_status.ensures
    (record {
      text = c.in-Ok.answer.text.items;
      whole = made.0;
      at_end = made.1;
      put = c.in-Ok-put_answer.ensures.put;
    })

pub returns-in-Ok-clause-ended : goal.returns-in-Ok-clause-ended
returns-in-Ok-clause-ended g c = λ input is.
    let made = c.in-Ok.ensures.answer input is in (
      c.in-Ok.answer.complete,
      record {
        text = c.in-Ok.answer.text.items;
        whole = made.0;
        at_end = made.1;
        put = c.in-Err-put_answer.ensures.put;
      },
    )

pub returns-clause-ended : goal.returns-clause-ended
returns-clause-ended g c = λ input is.
    ended_stopped c.args.command input (g.S.Source.left c.make_answer.new.source) (g.O.Sink.held c.args.out.now) (g.O.Sink.held c.args.out.now) c.in-Err.cause c.status.result c.status.ensures (c.in-Err.ensures.stopped input is)
