use Rattle.std.proofs.Common.{◌<◌, length, ap, ◌∙◌, subst}
use Rattle.cp_model.specs.Skeleton.{Assumptions}
use Rattle.cp_hom.specs.Counterparts.{AddsItems}
use Rattle.cp_hom.specs.declared.items.Kind.TheVariants.{Uniques}
use Rattle.cp_hom.specs.declared.items.Item.{Item}
use Rattle.cp_hom.proofs.Itemised.{adds_nothing, adds_one}
use Rattle.cp_hom.proofs.GrownItems.{unless_same, unless_one}
use Rattle.cp_hom.proofs.items.add_uniques_on.Goals as goal

pub loop-index-init : goal.loop-index-init
loop-index-init c = unless_same (AddsItems c.args.k.now) c.args.items.now (adds_nothing c.args.k.now c.args.items.now.items)

pub loop-index-preserved : goal.loop-index-preserved
loop-index-preserved c =
    let k = c.args.k.now in
    let x : Item = record { kind = Uniques; index = c.loop-index.index } in
    let l : c.loop-index.index < length k.assumptions.uniquely_originating =
    subst (λ us. c.loop-index.index < length us) (c.uniquely_originating-uniques.ensures ∙ ap (λ (a : Assumptions). a.uniquely_originating) c.assumptions.ensures) c.loop-index-test.true in
    unless_one (AddsItems k) (AddsItems k) c.args.items.now c.loop-index.items c.push.new.self x
    (λ new is h. adds_one k c.args.items.now.items c.loop-index.items.items new x is h l) c.loop-index.invariant c.push.ensures
