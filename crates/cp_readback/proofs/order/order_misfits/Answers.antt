use Rattle.std.proofs.Common.{map}
use Rattle.cp_readback.specs.Lines.{line_view}
use Rattle.cp_readback.proofs.InLine.{lines-done}
use Rattle.cp_readback.proofs.order.order_misfits.Goals as goal

pub returns : goal.returns
returns c = lines-done c.args.items.now c.loop-item.item-index c.loop-item-test.false (map line_view c.loop-item.lines.now) c.loop-item.first _ c.loop-item.invariant
