use Rattle.cp_term.specs.Variables.{variable_of_sort}
use Rattle.cp_unify.proofs.Looked.{IsYetToFind}
use Rattle.cp_unify.proofs.terms_under.first_bound.Given as goal

-- no binding so far is of the variable
abbrev pub invariant-loop-binding : goal.invariant-loop-binding
invariant-loop-binding l = IsYetToFind l.bindings l.binding-index (variable_of_sort l.sort l.variable)
