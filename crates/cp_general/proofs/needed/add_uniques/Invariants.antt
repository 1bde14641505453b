use Rattle.cp_general.specs.Needed.{AddsOnly, IsValueApart}
use Rattle.cp_general.proofs.needed.add_uniques.Given as goal

abbrev pub invariant-loop-unique : goal.invariant-loop-unique
invariant-loop-unique l = AddsOnly (IsValueApart l.part l.uniques) l.initial.terms l.terms
