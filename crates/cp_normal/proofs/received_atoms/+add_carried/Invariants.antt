use Rattle.std.proofs.Common.{◌≡◌, ◌≤◌}
use Rattle.cp_term.specs.Size.{term_size}
use Rattle.cp_model.specs.Given.{atoms_onto}
use Rattle.cp_normal.specs.ReceivedAtomLists.{carried_atoms}
use Rattle.cp_normal.proofs.received_atoms.+add_carried.Given as goal

abbrev pub decreases-add_carried : goal.decreases-add_carried
decreases-add_carried l = term_size l.term.now

abbrev pub invariant-rest : goal.invariant-rest
invariant-rest l =
    (atoms_onto l.atoms.items (carried_atoms l.rest) ≡ atoms_onto l.fn.atoms.items (carried_atoms l.term)) × (term_size l.rest ≤ term_size l.term)

abbrev pub decreases-rest : goal.decreases-rest
decreases-rest l = term_size l.rest
