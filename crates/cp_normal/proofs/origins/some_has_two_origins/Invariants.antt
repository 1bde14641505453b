use Rattle.std.proofs.Common.{drop}
use Rattle.cp_collapse.specs.Property.{Has}
use Rattle.cp_normal.specs.Events.{HasOtherOrigin}
use Rattle.cp_normal.proofs.origins.some_has_two_origins.Given as goal

abbrev pub invariant-loop-unique : goal.invariant-loop-unique
invariant-loop-unique l = Has (λ u. Has (λ w. HasOtherOrigin u w) l.uniques) l.uniques → Has (λ u. Has (λ w. HasOtherOrigin u w) l.uniques) (drop l.unique-index l.uniques)
