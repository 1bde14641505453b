use Rattle.std.proofs.Common.{◌≡◌, ◌++◌, map, length}
use Rattle.std.specs.Vec.Iter.{into_iter_items, into_iter_len}
use Rattle.cp_normal.specs.declared.form.Form.{Form}
use Rattle.cp_normal.proofs.normal_forms.skeletons_of.Given as goal

abbrev pub invariant-loop-form : goal.invariant-loop-form
invariant-loop-form l = (l.skeletons.items ++ map (λ (f : Form). f.skeleton) (into_iter_items l.form-iterator) ≡ map (λ (f : Form). f.skeleton) l.fn.forms.items)
    × (into_iter_len l.form-iterator ≡ length (into_iter_items l.form-iterator))
