use Rattle.std.proofs.Common.{◌≡◌, ◌++◌, drop}
use Rattle.cp_model.specs.Strand.{variables_of_prefix}
use Rattle.cp_model.specs.Homomorphism.{substitution_by}
use Rattle.cp_fingerprint.specs.SharedValues.{declared_slots}
use Rattle.cp_fingerprint.proofs.slots.instance_slots.Given as goal

abbrev pub invariant-loop-number : goal.invariant-loop-number
invariant-loop-number l =
    l.slots.items ++ declared_slots l.name (variables_of_prefix l.instance.role l.instance.height) (substitution_by l.instance.values) l.number (drop l.number l.declarations)
    ≡ declared_slots l.name (variables_of_prefix l.instance.role l.instance.height) (substitution_by l.instance.values) 0 l.declarations
