use Rattle.std.proofs.Common.{◌≡◌, ◌++◌, drop}
use Rattle.cp_model.specs.Bindings.{bindings_of}
use Rattle.cp_model.specs.Given.{applying}
use Rattle.cp_strand.proofs.given.applying.Given as goal

abbrev pub invariant-loop-atom : goal.invariant-loop-atom
invariant-loop-atom l =
    l.values.items ++ applying l.instance.role l.instance.height (bindings_of l.instance.values) (drop l.atom-index l.stated)
    ≡ applying l.instance.role l.instance.height (bindings_of l.instance.values) l.stated
