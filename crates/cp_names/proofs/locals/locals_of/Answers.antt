use Rattle.std.proofs.Common.{[], List, ap₂, ◌∙◌}
use Rattle.std.proofs.lemmas.Result.{IfOk-weaker}
use Rattle.cp_model.specs.declared.variable.Variable.{Variable}
use Rattle.cp_language.specs.Printed.{locals_in_order}
use Rattle.cp_names.proofs.locals.locals_of.Goals as goal

pub returns : goal.returns
returns c =
    IfOk-weaker c.locals_in_order.result _ _
    (λ found h. h ∙ ap₂ (λ (ls xs : List Variable). locals_in_order ls [] xs) c.locals.ensures.variables (c.deref.ensures.value ∙ c.in_ok-variables.ensures))
    c.locals_in_order.ensures
