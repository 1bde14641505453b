use Rattle.cp_hom.specs.Counterparts.{AddsFirst}
use Rattle.cp_hom.specs.Grown.{UnlessOut}
use Rattle.cp_hom.specs.declared.items.Kind.TheVariants.{Strands}
use Rattle.cp_hom.proofs.items.add_strands.Given as goal

abbrev pub invariant-loop-index : goal.invariant-loop-index
invariant-loop-index l = UnlessOut (AddsFirst Strands l.index l.k) l.fn.items l.items
