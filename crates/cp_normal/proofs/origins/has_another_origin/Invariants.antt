use Rattle.std.proofs.Common.{drop}
use Rattle.cp_collapse.specs.Property.{Has}
use Rattle.cp_normal.specs.Events.{HasOtherOrigin}
use Rattle.cp_normal.proofs.origins.has_another_origin.Given as goal

abbrev pub invariant-loop-other : goal.invariant-loop-other
invariant-loop-other l = Has (λ w. HasOtherOrigin l.unique w) l.uniques → Has (λ w. HasOtherOrigin l.unique w) (drop l.other-index l.uniques)
