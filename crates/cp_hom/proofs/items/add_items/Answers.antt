use Rattle.std.proofs.Common.{◌≡◌, ◌+◌, ◌<◌, ℕ, arith, subst}
use Rattle.cp_hom.specs.Counterparts.{item_count, AddsFirst}
use Rattle.cp_hom.specs.Grown.{UnlessOut}
use Rattle.cp_hom.specs.declared.items.Item.{Item}
use Rattle.cp_hom.proofs.Itemised.{first_none, first_next}
use Rattle.cp_hom.proofs.GrownItems.{unless_same, unless_one}
use Rattle.cp_hom.proofs.items.add_items.Goals as goal

pub loop-index-init : goal.loop-index-init
loop-index-init c = unless_same (AddsFirst c.args.kind 0 c.args.k.now) c.args.items.now (first_none c.args.kind c.args.k.now c.args.items.now.items)

pub loop-index-preserved : goal.loop-index-preserved
loop-index-preserved c =
    let k = c.args.k.now in
    let old = c.args.items.now in
    let n = c.loop-index.index in
    let x : Item = record { kind = c.args.kind; index = n } in
    let l : n < item_count c.args.kind k = subst (λ (m : ℕ). n < m) c.count-index-end.ensures c.loop-index-test.true in
    unless_one (AddsFirst c.args.kind n k) (AddsFirst c.args.kind (n + 1) k) old c.loop-index.items c.push.new.self x
    (λ new is h. first_next c.args.kind n k old.items c.loop-index.items.items new is l h) c.loop-index.invariant c.push.ensures

pub returns : goal.returns
returns c =
    let e : c.loop-index.index ≡ item_count c.args.kind c.args.k.now = omega (arith, c.loop-index-test.false, c.loop-index.auto.index-end, c.count-index-end.ensures) in
    subst (λ (n : ℕ). UnlessOut (AddsFirst c.args.kind n c.args.k.now) c.args.items.now c.loop-index.items) e c.loop-index.invariant
