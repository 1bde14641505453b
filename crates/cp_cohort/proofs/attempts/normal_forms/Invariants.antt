use Rattle.std.proofs.Common.{◌≡◌, ◌++◌, map, length}
use Rattle.std.specs.Vec.Iter.{into_iter_items, into_iter_len}
use Rattle.cp_cohort.specs.Candidates.{form_or_result}
use Rattle.cp_cohort.proofs.attempts.normal_forms.Given as goal

abbrev pub invariant-loop-form : goal.invariant-loop-form
invariant-loop-form l = (l.made.items ++ map (form_or_result l.are_settled) (into_iter_items l.form-iterator) ≡ map (form_or_result l.are_settled) (into_iter_items l.initial.form-iterator))
    × (into_iter_len l.form-iterator ≡ length (into_iter_items l.form-iterator))
