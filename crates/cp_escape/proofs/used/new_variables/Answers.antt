use Rattle.std.proofs.Common.{ap, ◌∙◌}
use Rattle.cp_model.specs.Strand.{variables_of_trace}
use Rattle.cp_escape.proofs.NewVariables.{are_new}
use Rattle.cp_escape.proofs.used.new_variables.Goals as goal

pub returns : goal.returns
returns c =
    are_new c.args.k.now c.args.term.now (variables_of_trace c.deref.result.now) c.put_all_new.new.new.items c.of.result (ap variables_of_trace c.deref.ensures.value ∙ c.in_ok-uses.ensures) c.of.ensures
    (rw c.new-new.ensures.items at c.in_ok-put_all_new.ensures)
