use Rattle.std.proofs.Common.{◌≡◌, ◌++◌, drop}
use Rattle.cp_model.specs.Homomorphism.{substitution_by}
use Rattle.cp_model.specs.Term.{composed}
use Rattle.cp_unify.specs.Bindings.{as_substitution}
use Rattle.cp_model.specs.PrefixVariables.{declared_variables, terms_of}
use Rattle.cp_collapse.proofs.variable_terms.declared_terms.Given as goal

-- The terms so far and those of what is left are the terms of all.
abbrev pub invariant-loop-number : goal.invariant-loop-number
invariant-loop-number l =
    let f = composed (substitution_by l.terms) (as_substitution l.s) in
    l.changed.items ++ terms_of f (declared_variables l.number (drop l.number l.declarations)) ≡ terms_of f (declared_variables 0 l.declarations)
