use Rattle.std.proofs.Common.{Vec, Global, ap, sym, ◌∙◌}
use Rattle.std.proofs.lemmas.Result.{IfOk-weaker}
use Rattle.cp_model.specs.Term.{Substitution}
use Rattle.cp_model.proofs.DeclaredTerms.{bindings_are}
use Rattle.cp_strand.specs.Shapes.{strand_of_shape}
use Rattle.cp_fingerprint.specs.SharedValues.{prefix_slots, strand_slots}
use Rattle.cp_fingerprint.specs.Slots.{Slot}
use Rattle.cp_fingerprint.proofs.slots.strand_slots.Goals as goal

pub returns-in-Instance : goal.returns-in-Instance
returns-in-Instance c =
    let i = c.in-Instance.instance.now in
    IfOk-weaker c.instance_slots.result _ _
    (λ (v : Vec Slot Global) e. e ∙ ap (λ (s : Substitution). prefix_slots i.role i.height s) (sym (bindings_are i.values)) ∙ ap strand_slots (sym (ap strand_of_shape c.in-Instance.is) ∙ c.shape.ensures))
    c.instance_slots.ensures
