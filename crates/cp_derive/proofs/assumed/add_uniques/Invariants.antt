use Rattle.std.proofs.Common.{◌≡◌, ◌++◌, map, drop}
use Rattle.cp_model.specs.Term.{atom_term}
use Rattle.cp_derive.proofs.assumed.add_uniques.Given as goal

abbrev pub invariant-loop-unique : goal.invariant-loop-unique
invariant-loop-unique l =
    l.terms.items ++ map (λ u. atom_term u.value) (drop l.unique-index l.uniques)
    ≡ l.initial.terms.items ++ map (λ u. atom_term u.value) l.uniques
