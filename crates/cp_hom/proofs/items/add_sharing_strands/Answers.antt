use Rattle.std.proofs.Common.{◌<◌, ℕ, subst}
use Rattle.cp_hom.specs.Counterparts.{item_count, AddsItems}
use Rattle.cp_hom.specs.declared.items.Kind.TheVariants.{Strands}
use Rattle.cp_hom.specs.declared.items.Item.{Item}
use Rattle.cp_hom.proofs.Itemised.{adds_nothing, adds_one, adds_then}
use Rattle.cp_hom.proofs.GrownItems.{unless_same, unless_one, unless_then}
use Rattle.cp_hom.proofs.items.add_sharing_strands.Goals as goal

pub loop-index-init : goal.loop-index-init
loop-index-init c = unless_same (AddsItems c.args.k.now) c.args.items.now (adds_nothing c.args.k.now c.args.items.now.items)

pub loop-index-preserved : goal.loop-index-preserved
loop-index-preserved c =
    let k = c.args.k.now in
    let old = c.args.items.now in
    let x : Item = record { kind = Strands; index = c.loop-index.index } in
    let l : c.loop-index.index < item_count Strands k = subst (λ (n : ℕ). c.loop-index.index < n) c.count-index-end.ensures c.loop-index-test.true in
    unless_then (AddsItems k) (AddsItems k) (AddsItems k) old c.push.new.self c.add_uniques_on.new.items
    (adds_then k old.items c.push.new.self.items c.add_uniques_on.new.items.items)
    (unless_one (AddsItems k) (AddsItems k) old c.loop-index.items c.push.new.self x (λ new is h. adds_one k old.items c.loop-index.items.items new x is h l) c.loop-index.invariant c.push.ensures)
    c.add_uniques_on.ensures
