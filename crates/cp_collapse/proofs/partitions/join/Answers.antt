use Rattle.std.proofs.Common.{inl}
use Rattle.cp_collapse.proofs.RuledOut.{turned_if_joined}
use Rattle.cp_collapse.proofs.partitions.join.Goals as goal

pub returns-then-some_in_block : goal.returns-then-some_in_block
returns-then-some_in_block c = λ may.
    let some = c.some_in_block.ensures.0 c.if-some_in_block.true in
    turned_if_joined c.args.k.now c.args.number c.args.partial.now.lowest.items c.requires.partition c.args.block some.0 some.2 (c.requires.apart some.0 some.1)

pub returns-in-None : goal.returns-in-None
returns-in-None c = λ may. inl (rw c.in-None.is at c.in_ok-bindings.ensures)
