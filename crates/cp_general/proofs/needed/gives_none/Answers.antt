use Rattle.std.proofs.Common.{sym, ap, ◌∙◌}
use Rattle.cp_model.specs.Bindings.{bindings_of}
use Rattle.cp_strand.specs.Shapes.{strand_of_shape}
use Rattle.cp_general.proofs.NeededParts.{none_by_role, no_instance}
use Rattle.cp_general.proofs.needed.gives_none.Goals as goal

pub returns-in-Instance : goal.returns-in-Instance
returns-in-Instance c =
    let i = c.in-Instance.instance.now in
    λ t role height terms is. none_by_role c.args.strand.now c.deref.result.now i.role role height i.height terms (bindings_of i.values) (c.deref.ensures ∙ c.role.ensures)
    (sym c.shape.ensures ∙ ap strand_of_shape c.in-Instance.is) is (c.states_none.ensures t)

pub returns-in-Listener : goal.returns-in-Listener
returns-in-Listener c = λ t role height terms is. absurd (no_instance c.args.strand.now _ role height terms (sym c.shape.ensures ∙ ap strand_of_shape c.in-Listener.is) is)
