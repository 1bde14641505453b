use Rattle.std.proofs.Common.{◌≡◌, ◌∙◌, [], ap, false, map, string_bytes, sym, true}
use Rattle.cp_base.specs.Outside.{Rose}
use Rattle.cp_words.specs.CommandWords.{command_of}
use Rattle.cp_app.proofs.Endings as endings
use Rattle.cp_app.proofs.main_call.run.Goals as goal

pub returns-clause-answered_in_detail : goal.returns-clause-answered_in_detail
returns-clause-answered_in_detail g c = λ command input before named is held whole.
    endings.ended_in_detail command input (g.S.Source.left c.execute-status.new.source) (g.O.Sink.held c.args.out.now) (g.O.Sink.held c.execute-status.new.out)
    before c.execute-status.result held whole (c.execute-status.ensures.executed command input named is)

pub returns-clause-answered : goal.returns-clause-answered
returns-clause-answered g c = λ command input before named is held whole.
    endings.answered_by_detail command input (g.S.Source.left c.execute-status.new.source) (g.O.Sink.held c.args.out.now) (g.O.Sink.held c.execute-status.new.out) before c.execute-status.result
    (returns-clause-answered_in_detail g c command input before named is held whole)

pub returns-clause-broken_off_in_detail : goal.returns-clause-broken_off_in_detail
returns-clause-broken_off_in_detail g c = λ command input before named is held broken.
    endings.ended_broken_off command input (g.S.Source.left c.execute-status.new.source) (g.O.Sink.held c.args.out.now) (g.O.Sink.held c.execute-status.new.out)
    before c.execute-status.result held broken (c.execute-status.ensures.executed command input named is)

pub returns-clause-broken_off : goal.returns-clause-broken_off
returns-clause-broken_off g c = λ command input before named is held broken.
    endings.broken_off_by_detail command input (g.S.Source.left c.execute-status.new.source) (g.O.Sink.held c.args.out.now) (g.O.Sink.held c.execute-status.new.out) before
    (returns-clause-broken_off_in_detail g c command input before named is held broken)

pub returns-clause-accepted : goal.returns-clause-accepted
returns-clause-accepted g c = λ command input named reading is ends.
    endings.ended_accepted command input (g.S.Source.left c.execute-status.new.source) (g.O.Sink.held c.args.out.now) (g.O.Sink.held c.execute-status.new.out)
    c.execute-status.result reading (c.execute-status.ensures.executed command input named (λ r. is)) ends

pub returns-clause-reads_nothing_ends : goal.returns-clause-reads_nothing_ends
returns-clause-reads_nothing_ends g c = λ command named silent.
    endings.ended_silent command [] (g.S.Source.left c.execute-status.new.source) (g.O.Sink.held c.args.out.now) (g.O.Sink.held c.execute-status.new.out)
    c.execute-status.result silent (c.execute-status.ensures.executed command [] named (λ reading. let e : true ≡ false = sym reading ∙ silent in absurd (cc)))

pub returns-clause-refused : goal.returns-clause-refused
returns-clause-refused g c = λ command r input named refused is.
    endings.ended_refused command input (g.S.Source.left c.execute-status.new.source) (g.O.Sink.held c.args.out.now) (g.O.Sink.held c.execute-status.new.out)
    c.execute-status.result r (c.execute-status.ensures.executed command input named (λ reading. is)) refused

pub returns-clause-only_refused : goal.returns-clause-only_refused
returns-clause-only_refused g c = λ command r input named reading is short refused.
    endings.ended_only_refused command input (g.S.Source.left c.execute-status.new.source) (g.O.Sink.held c.args.out.now) (g.O.Sink.held c.execute-status.new.out)
    c.execute-status.result r reading (c.execute-status.ensures.executed command input named (λ _. is)) short refused

pub returns-clause-too_long : goal.returns-clause-too_long
returns-clause-too_long g c = λ input is long.
    endings.executed_too_long (command_of (map string_bytes c.args.words.now)) input (g.S.Source.left c.execute-status.new.source) (g.O.Sink.held c.args.out.now) (g.O.Sink.held c.execute-status.new.out)
    c.execute-status.result (λ command named. c.execute-status.ensures.executed command input named (λ _. is)) c.execute-status.ensures.usage.1 long

pub returns-clause-only_too_long : goal.returns-clause-only_too_long
returns-clause-only_too_long g c = λ command input named reading is long.
    endings.ended_only_too_long command input (g.S.Source.left c.execute-status.new.source) (g.O.Sink.held c.args.out.now) (g.O.Sink.held c.execute-status.new.out)
    c.execute-status.result reading (c.execute-status.ensures.executed command input named (λ _. is)) long

pub returns-clause-took_at_most : goal.returns-clause-took_at_most
returns-clause-took_at_most g c = λ input is.
    endings.executed_took_at_most (command_of (map string_bytes c.args.words.now)) input (g.S.Source.left c.execute-status.new.source) (g.O.Sink.held c.args.out.now) (g.O.Sink.held c.execute-status.new.out)
    c.execute-status.result (λ command named. c.execute-status.ensures.executed command input named (λ _. is))
    (λ none. ap g.S.Source.left (c.execute-status.ensures.usage_reads_nothing (c.execute-status.ensures.usage.1 none)) ∙ is)
    (λ command named silent. ap g.S.Source.left (c.execute-status.ensures.reads_nothing command named silent) ∙ is)

pub returns-clause-completes : goal.returns-clause-completes
returns-clause-completes g c = λ command named given not_read not_written.
    endings.run_completes command (g.S.Source.left c.args.source.now) (g.S.Source.left c.execute-status.new.source) (g.O.Sink.held c.args.out.now) (g.O.Sink.held c.execute-status.new.out)
    c.execute-status.result (Rose (g.S.Source.faults c.args.source.now) (g.S.Source.faults c.execute-status.new.source)) (Rose (g.O.Sink.faults c.args.out.now) (g.O.Sink.faults c.execute-status.new.out))
    (λ input. c.execute-status.ensures.executed command input named) c.execute-status.ensures.read_fault c.execute-status.ensures.write_fault given not_read not_written
