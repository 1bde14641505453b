use Rattle.std.proofs.Common.{true, codes, sym, ◌∙◌}
use Rattle.cp_language.specs.Printed.{word}
use Rattle.cp_print.specs.MarkedForms.{vars_by}
use Rattle.cp_print.proofs.SpelledItems.{list_item}
use Rattle.cp_print.proofs.MarkedForms.{vars_listed, no_vars_listed}
use Rattle.cp_print.proofs.strands.put_vars.Goals as goal

pub returns-then-has_vars : goal.returns-then-has_vars
returns-then-has_vars c =
    let vars = vars_by c.args.names.now c.args.flags.now 0 c.args.variables.now in
    vars_listed c.args.names.now c.args.flags.now c.args.variables.now (sym c.has_vars.ensures ∙ c.if-has_vars.true)
    (list_item (word (codes "vars")) vars true c.begin_list.ensures c.put_flagged.ensures c.push.ensures)

pub returns-else-has_vars : goal.returns-else-has_vars
returns-else-has_vars c = no_vars_listed c.args.names.now c.args.flags.now c.args.variables.now c.args.out.now (sym c.has_vars.ensures ∙ c.if-has_vars.false)
