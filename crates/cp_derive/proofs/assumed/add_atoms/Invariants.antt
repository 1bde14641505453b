use Rattle.std.proofs.Common.{◌≡◌, ◌++◌, map, drop}
use Rattle.cp_model.specs.Term.{atom_term}
use Rattle.cp_derive.proofs.assumed.add_atoms.Given as goal

abbrev pub invariant-loop-atom : goal.invariant-loop-atom
invariant-loop-atom l = l.terms.items ++ map atom_term (drop l.atom-index l.atoms) ≡ l.initial.terms.items ++ map atom_term l.atoms
