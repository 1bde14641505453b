use Rattle.std.proofs.Common.{◌≡◌, ◌++◌, drop}
use Rattle.cp_model.specs.Problem.{variables_of_atoms}
use Rattle.cp_model.specs.Strand.{variables_of_trace}
use Rattle.cp_skel.proofs.used.add_atoms.Given as goal

-- with what is left, all is there
abbrev pub invariant-loop-atom : goal.invariant-loop-atom
invariant-loop-atom l =
    variables_of_trace l.events.items ++ variables_of_atoms (drop l.atom-index l.atoms) ≡ variables_of_trace l.initial.events.items ++ variables_of_atoms l.atoms
