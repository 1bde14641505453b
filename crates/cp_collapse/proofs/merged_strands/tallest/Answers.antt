use Rattle.std.proofs.Common.{rules, ◌<◌, ◌∙◌, ap, length, arith}
use Rattle.cp_lists.specs.Lists.{item_at}
use Rattle.cp_collapse.specs.MergedStrands.{height_of}
use Rattle.cp_collapse.proofs.Tallest.{tallest_stays, tallest_next}
use Rattle.cp_collapse.proofs.merged_strands.tallest.Goals as goal

pub loop-strand-preserved-then-height_at : goal.loop-strand-preserved-then-height_at
loop-strand-preserved-then-height_at c =
    let below : c.loop-strand.strand < length c.args.partial.now.lowest.items = search rules in
    let hi = c.height_at.ensures ∙ ap (λ ss. height_of (item_at ss c.loop-strand.strand)) c.strands.ensures in
    let ht = c.height_at-in-loop-strand.ensures ∙ ap (λ ss. height_of (item_at ss c.loop-strand.tallest)) c.strands-in-loop-strand.ensures in
    let le = c.if-height_at.true in (
      tallest_stays c.args.k.now c.args.partial.now.lowest.items c.requires.partition c.args.block c.loop-strand.strand c.loop-strand.tallest c.loop-strand.invariant.0 (omega (arith, le, hi, ht)),
      omega (arith, below),
    )

pub loop-strand-preserved : goal.loop-strand-preserved
loop-strand-preserved c =
    let below : c.loop-strand.strand < length c.args.partial.now.lowest.items = search rules in
    let hi = c.height_at.ensures ∙ ap (λ ss. height_of (item_at ss c.loop-strand.strand)) c.strands.ensures in
    let ht = c.height_at-in-loop-strand.ensures ∙ ap (λ ss. height_of (item_at ss c.loop-strand.tallest)) c.strands-in-loop-strand.ensures in
    let less = c.if-height_at.false in (
      tallest_next c.args.k.now c.args.partial.now.lowest.items c.requires.partition c.args.block c.loop-strand.strand c.loop-strand.tallest c.loop-strand.invariant.0
          (c.is_in_block.ensures.0 c.if-not-is_in_block.false) (omega (arith, less, hi, ht)),
      omega (arith, below),
    )
