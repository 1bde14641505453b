use Rattle.std.proofs.Common.{drop}
use Rattle.cp_model.specs.Strand.{payload}
use Rattle.cp_model.specs.Term.{atom_term, IsCarriedByTerm}
use Rattle.cp_collapse.specs.Property.{Has}
use Rattle.cp_normal.proofs.carried_values.carries_one.Given as goal

abbrev pub invariant-loop-value : goal.invariant-loop-value
invariant-loop-value l = Has (λ v. IsCarriedByTerm (atom_term v) (payload l.occurrence.event)) l.values → Has (λ v. IsCarriedByTerm (atom_term v) (payload l.occurrence.event)) (drop l.value-index l.values)
