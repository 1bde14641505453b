use Rattle.cp_hom.specs.Counterparts.{AddsItems}
use Rattle.cp_hom.specs.Grown.{UnlessOut}
use Rattle.cp_hom.proofs.items.add_uniques_on.Given as goal

abbrev pub invariant-loop-index : goal.invariant-loop-index
invariant-loop-index l = UnlessOut (AddsItems l.k) l.fn.items l.items
