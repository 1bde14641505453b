use Rattle.cp_unify.specs.Bindings.{as_substitution}
use Rattle.cp_collapse.proofs.KeptTerms.{AreKeptFrom}
use Rattle.cp_collapse.proofs.variable_terms.leaves_declared.Given as goal

abbrev pub invariant-loop-number : goal.invariant-loop-number
invariant-loop-number l = AreKeptFrom (as_substitution l.s) l.number l.declarations l.terms
