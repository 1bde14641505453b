use Rattle.std.proofs.Common.{min}
use Rattle.cp_model.specs.Bindings.{bindings_of}
use Rattle.cp_unify.specs.Bindings.{Meets}
use Rattle.cp_collapse.specs.FirstPartitions.{IsExactFor}
use Rattle.cp_collapse.proofs.Prefixes.{AgreeBelow}
use Rattle.cp_collapse.proofs.equal_values.unify_instances.Given as goal

abbrev pub invariant-loop-number : goal.invariant-loop-number
invariant-loop-number l =
    IsExactFor (AgreeBelow (λ g. Meets g l.given.value) l.a.role (min l.a.height l.b.height) (bindings_of l.a.values) (bindings_of l.b.values) l.number) l.bindings.value
