use Rattle.std.proofs.Common.{◌≡◌, ◌++◌, ℕ, map, drop}
use Rattle.cp_model.specs.Bindings.{bindings_of}
use Rattle.cp_model.specs.Given.{applying_uniques}
use Rattle.cp_strand.specs.Givens.{unique_on}
use Rattle.cp_strand.proofs.given.originating.Given as goal

abbrev pub invariant-loop-atom : goal.invariant-loop-atom
invariant-loop-atom l =
    (s : ℕ) → map (unique_on s) l.values.items ++ applying_uniques l.instance.role l.instance.height (bindings_of l.instance.values) s (drop l.atom-index l.stated)
    ≡ applying_uniques l.instance.role l.instance.height (bindings_of l.instance.values) s l.stated
