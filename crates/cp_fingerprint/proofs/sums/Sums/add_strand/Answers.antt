use Rattle.std.proofs.Common.{List, ap, sym, ◌∙◌, subst}
use Rattle.std.specs.Result.{OnOk}
use Rattle.cp_model.specs.Term.{Substitution}
use Rattle.cp_model.proofs.DeclaredTerms.{bindings_are}
use Rattle.cp_strand.specs.Shapes.{strand_of_shape}
use Rattle.cp_fingerprint.specs.SharedValues.{prefix_slots, strand_slots}
use Rattle.cp_fingerprint.specs.Slots.{Slot}
use Rattle.cp_fingerprint.specs.Weights.{AreAdded}
use Rattle.cp_fingerprint.proofs.sums.Sums.add_strand.Goals as goal

pub returns-in-Instance : goal.returns-in-Instance
returns-in-Instance c =
    let i = c.in-Instance.instance.now in
    subst (λ (xs : List Slot). OnOk c.add_instance.result (AreAdded xs c.args.self.now c.add_instance.new.self))
    (ap (λ (s : Substitution). prefix_slots i.role i.height s) (sym (bindings_are i.values)) ∙ ap strand_slots (sym (ap strand_of_shape c.in-Instance.is) ∙ c.shape.ensures))
    c.add_instance.ensures
