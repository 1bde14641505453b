use Rattle.std.proofs.Common.{◌≡◌, ◌++◌, drop}
use Rattle.cp_model.specs.Problem.{variable_terms}
use Rattle.cp_load.proofs.values.variable_terms.Given as goal

abbrev pub invariant-loop-number : goal.invariant-loop-number
invariant-loop-number l =
    l.terms.items ++ variable_terms l.number (drop l.number l.variables) ≡ variable_terms 0 l.variables
