use Rattle.std.proofs.Common.{◌≡◌, map, take}
use Rattle.cp_unify.specs.Joined.{moved}
use Rattle.cp_unify.proofs.composition.join_all.Given as goal

abbrev pub invariant-loop-binding : goal.invariant-loop-binding
invariant-loop-binding l = l.bindings.items ≡ map (moved l.second) (take l.binding-index l.binding-items)
