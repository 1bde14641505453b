use Rattle.std.proofs.Common.{sym, ◌∙◌}
use Rattle.cp_print.proofs.MarkedForms.{flag_found, flag_skipped, no_flags}
use Rattle.cp_print.proofs.strands.has_vars.Goals as goal

pub loop-number-preserved : goal.loop-number-preserved
loop-number-preserved c =
    let l = c.loop-number in
    flag_skipped c.args.flags.now l.number c.args.variables.now c.loop-number-test.true (sym c.is_flagged.ensures ∙ c.if-is_flagged.false) ∙ l.invariant

pub returns-then-is_flagged : goal.returns-then-is_flagged
returns-then-is_flagged c =
    let l = c.loop-number in
    sym (flag_found c.args.flags.now l.number c.args.variables.now c.loop-number-test.true (sym c.is_flagged.ensures ∙ c.if-is_flagged.true)) ∙ l.invariant

pub returns : goal.returns
returns c = sym (no_flags c.args.flags.now c.loop-number.number c.args.variables.now c.loop-number-test.false) ∙ c.loop-number.invariant
