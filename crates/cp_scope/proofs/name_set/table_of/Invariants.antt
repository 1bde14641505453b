use Rattle.std.proofs.Common.{take}
use Rattle.cp_scope.specs.Places.{ArePlacesOf}
use Rattle.cp_scope.proofs.name_set.table_of.Given as goal

abbrev pub invariant-loop-number : goal.invariant-loop-number
invariant-loop-number l = ArePlacesOf (take l.number l.names) l.places
