use Rattle.std.proofs.Common.{ap, sym, ◌∙◌}
use Rattle.cp_model.specs.Strand.{Role}
use Rattle.cp_unify.specs.Bindings.{as_substitution}
use Rattle.cp_strand.specs.Shapes.{strand_of_shape}
use Rattle.cp_collapse.proofs.Values.{left_is}
use Rattle.cp_collapse.proofs.substituted.StrandSubstituted.is_left.Goals as goal

pub returns-in-Instance : goal.returns-in-Instance
returns-in-Instance c = λ left.
    sym (left_is (as_substitution c.args.s.now) c.in-Instance.instance.now c.args.self.now c.values.result.now c.variables-declarations.result.now (ap strand_of_shape (sym c.in-Instance.is) ∙ c.shape.ensures) c.values.ensures (c.variables-declarations.ensures ∙ ap (λ (r : Role). r.variables) (c.deref.ensures ∙ c.role.ensures)) (c.leaves_declared.ensures left))
