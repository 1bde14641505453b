use Rattle.std.proofs.Common.{◌≡◌, [], drop}
use Rattle.cp_model.specs.Given.{atoms_onto}
use Rattle.cp_normal.specs.ReceivedAtomLists.{heard_among}
use Rattle.cp_normal.proofs.received_atoms.atoms_received.Given as goal

-- with the events that are left, all is received
abbrev pub invariant-loop-occurrence : goal.invariant-loop-occurrence
invariant-loop-occurrence l =
    atoms_onto l.atoms.items (heard_among l.node (drop l.occurrence-index l.occurrences))
    ≡ atoms_onto [] (heard_among l.node l.occurrences)
