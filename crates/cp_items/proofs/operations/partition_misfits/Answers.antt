use Rattle.std.proofs.Common.{map, refl, sym, arith}
use Rattle.cp_sexpr.specs.View.{view}
use Rattle.cp_language.specs.Problems.{number_of}
use Rattle.cp_items.proofs.InBlocks.{block-taken, block-missing, blocks-done}
use Rattle.cp_items.proofs.operations.partition_misfits.Goals as goal

pub loop-number-init : goal.loop-number-init
loop-number-init c = (c.args.strands, omega arith, refl)

pub loop-number-preserved : goal.loop-number-preserved
loop-number-preserved c =
    let inv = c.loop-number.invariant in
    block-taken (map number_of (map view c.args.items.now)) c.args.place c.args.items.now c.loop-number.number inv.0 c.args.strands inv.1 c.loop-number-test.true
    c.loop-number.first _ inv.2 (view c.in-Some.item.now) (sym c.in-Some.ensures) c.block_misfits.new.first c.block_misfits.ensures

pub returns-in_default : goal.returns-in_default
returns-in_default c =
    let inv = c.loop-number.invariant in
    block-missing (map number_of (map view c.args.items.now)) c.args.place c.args.items.now c.loop-number.number inv.0 c.args.strands inv.1 c.loop-number-test.true
    c.loop-number.first _ inv.2 (sym c.in_default.ensures) c.note.new.self c.note.ensures

pub returns : goal.returns
returns c =
    let inv = c.loop-number.invariant in
    blocks-done (map number_of (map view c.args.items.now)) c.args.place c.args.items.now c.loop-number.number inv.0 c.args.strands inv.1 c.loop-number-test.false
    c.loop-number.first _ inv.2 (map view c.later_items.result.now) c.later_items.ensures c.no_more.new.first (c.no_more.ensures c.args.place)
