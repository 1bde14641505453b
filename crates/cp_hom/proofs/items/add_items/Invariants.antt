use Rattle.cp_hom.specs.Counterparts.{AddsFirst}
use Rattle.cp_hom.specs.Grown.{UnlessOut}
use Rattle.cp_hom.proofs.items.add_items.Given as goal

abbrev pub invariant-loop-index : goal.invariant-loop-index
invariant-loop-index l = UnlessOut (AddsFirst l.kind l.index l.k) l.fn.items l.items
