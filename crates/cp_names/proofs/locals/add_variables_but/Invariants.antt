use Rattle.std.proofs.Common.{◌≡◌, ◌++◌, drop}
use Rattle.cp_language.specs.Report.{variables_but}
use Rattle.cp_names.proofs.locals.add_variables_but.Given as goal

abbrev pub invariant-loop-variable : goal.invariant-loop-variable
invariant-loop-variable l =
    l.out.items ++ variables_but l.locals (drop l.variable-index l.variables)
    ≡ l.fn.out.items ++ variables_but l.locals l.variables
