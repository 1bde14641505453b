use Rattle.std.proofs.Common.{◌≡◌, [], map, drop}
use Rattle.cp_model.specs.Given.{atoms_onto}
use Rattle.cp_model.specs.Term.{apply_to_atom}
use Rattle.cp_unify.specs.Bindings.{as_substitution}
use Rattle.cp_collapse.proofs.images.atom_images.Given as goal

abbrev pub invariant-loop-atom : goal.invariant-loop-atom
invariant-loop-atom l =
    atoms_onto l.images.items (map (apply_to_atom (as_substitution l.s)) (drop l.atom-index l.atoms)) ≡ atoms_onto [] (map (apply_to_atom (as_substitution l.s)) l.atoms)
