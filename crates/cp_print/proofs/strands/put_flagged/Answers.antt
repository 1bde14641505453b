use Rattle.std.proofs.Common.{false, [], ◌∷◌, sym, ◌∙◌}
use Rattle.cp_language.specs.Names.{sort_text}
use Rattle.cp_language.specs.Printed.{plain_list, word}
use Rattle.cp_print.specs.MarkedForms.{vars_by}
use Rattle.cp_print.proofs.SpelledItems.{items_begin, items_go_on, items_same, items_end}
use Rattle.cp_print.proofs.MarkedForms.{var_skipped, var_taken, no_vars}
use Rattle.cp_print.proofs.strands.put_flagged.Goals as goal

pub loop-number-init : goal.loop-number-init
loop-number-init c = items_begin false c.args.out.now (vars_by c.args.names.now c.args.flags.now 0 c.args.variables.now)

pub loop-number-preserved-then-not-is_flagged : goal.loop-number-preserved-then-not-is_flagged
loop-number-preserved-then-not-is_flagged c =
    let l = c.loop-number in
    items_same false _ _ _ l.invariant (var_skipped c.args.flags.now l.number c.args.variables.now c.loop-number-test.true (sym c.is_flagged.ensures ∙ c.if-not-is_flagged.true) c.args.names.now)

pub loop-number-preserved : goal.loop-number-preserved
loop-number-preserved c =
    let l = c.loop-number in
    items_go_on false (plain_list (word c.name_of.result.now ∷ word (sort_text c.index-variables-number.result.sort) ∷ [])) _ _ _ l.invariant
    (var_taken c.args.flags.now l.number c.args.variables.now c.loop-number-test.true (sym c.is_flagged.ensures ∙ c.if-not-is_flagged.false)
    c.index-variables-number.result c.index-variables-number.is c.args.names.now c.name_of.result.now c.name_of.ensures) c.put_var.ensures

pub returns : goal.returns
returns c =
    let l = c.loop-number in
    items_end false _ _ l.invariant (no_vars c.args.names.now c.args.flags.now l.number c.args.variables.now c.loop-number-test.false)
