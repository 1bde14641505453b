use Rattle.std.proofs.Common.{drop}
use Rattle.cp_model.specs.Strand.{variables_of_prefix}
use Rattle.cp_model.specs.Homomorphism.{substitution_by}
use Rattle.cp_fingerprint.specs.SharedValues.{declared_slots}
use Rattle.cp_fingerprint.specs.Weights.{AreAdded}
use Rattle.cp_fingerprint.specs.declared.sums.Sums.{Sums}
use Rattle.cp_fingerprint.proofs.sums.Sums.add_instance.Given as goal

abbrev pub invariant-loop-number : goal.invariant-loop-number
invariant-loop-number l =
    (r : Sums) →
    AreAdded (declared_slots l.name (variables_of_prefix l.instance.role l.instance.height) (substitution_by l.instance.values) l.number (drop l.number l.declarations)) l.self r →
    AreAdded (declared_slots l.name (variables_of_prefix l.instance.role l.instance.height) (substitution_by l.instance.values) 0 l.declarations) l.initial.self r
