use Rattle.std.proofs.Common.{rules, ◌<◌, ap, length, arith, refl, subst}
use Rattle.cp_unify.specs.Bindings.{as_substitution}
use Rattle.cp_collapse.specs.MergedStrands.{IsUnder}
use Rattle.cp_model.proofs.CarriedParts.{not_both}
use Rattle.cp_collapse.proofs.Tallest.{none_alike, alike_passes, alike_puts, tallest_there}
use Rattle.cp_collapse.proofs.merged_strands.merged_strands.Goals as goal

pub loop-strand-init : goal.loop-strand-init
loop-strand-init c = (none_alike c.args.k.now c.args.partial.now.lowest.items (as_substitution c.args.partial.now.bindings.value) _ c.new-strands.ensures.items, omega arith)

pub loop-strand-preserved-then-not-is_in_block : goal.loop-strand-preserved-then-not-is_in_block
loop-strand-preserved-then-not-is_in_block c =
    let below : c.loop-strand.strand < length c.args.partial.now.lowest.items = search rules in (
      alike_passes c.args.k.now c.args.partial.now.lowest.items (as_substitution c.args.partial.now.bindings.value) c.loop-strand.strand c.loop-strand.strands.items c.loop-strand.invariant.0 below
          (λ e. not_both c.if-not-is_in_block.true (c.is_in_block.ensures.1 e)),
      omega (arith, below),
    )

pub merged_strand-requires : goal.merged_strand-requires
merged_strand-requires c =
    let there = tallest_there c.args.k.now c.args.partial.now.lowest.items c.requires.partition c.loop-strand.strand c.tallest-tallest.result c.tallest-tallest.ensures in
    let same = ap length c.strands.ensures in
    omega (arith, there, same)

pub loop-strand-preserved : goal.loop-strand-preserved
loop-strand-preserved c =
    let below : c.loop-strand.strand < length c.args.partial.now.lowest.items = search rules in
    let under : IsUnder c.args.k.now.strands c.tallest-tallest.result (as_substitution c.args.partial.now.bindings.value) c.in_ok-merged_strand.field-0 =
    subst (λ ss. IsUnder ss c.tallest-tallest.result (as_substitution c.args.partial.now.bindings.value) c.in_ok-merged_strand.field-0) c.strands.ensures
    (subst (λ b. IsUnder c.strands.result.now c.tallest-tallest.result (as_substitution b) c.in_ok-merged_strand.field-0) c.deref.ensures c.in_ok-merged_strand.ensures) in (
      alike_puts c.args.k.now c.args.partial.now.lowest.items (as_substitution c.args.partial.now.bindings.value) c.loop-strand.strand c.loop-strand.strands.items c.loop-strand.invariant.0
          c.args.k.now.strands refl c.requires.declared c.tallest-tallest.result _ c.in_ok-merged_strand.field-0 (c.is_in_block.ensures.0 c.if-not-is_in_block.false) c.tallest-tallest.ensures under c.in_ok-push.ensures.items,
      omega (arith, below),
    )
