use Rattle.std.proofs.Common.{map}
use Rattle.cp_lists.specs.Lists.{IsIn}
use Rattle.cp_model.specs.Term.{atom_term}
use Rattle.cp_general.specs.Needed.{AddsOnly}
use Rattle.cp_general.proofs.needed.add_atoms.Given as goal

abbrev pub invariant-loop-atom : goal.invariant-loop-atom
invariant-loop-atom l = AddsOnly (λ t. IsIn t (map atom_term l.atoms)) l.initial.terms l.terms
