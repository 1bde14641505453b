use Rattle.cp_normal.proofs.Heard.{heard_next, heard_end}
use Rattle.cp_normal.proofs.received_atoms.atoms_received.Goals as goal

pub loop-occurrence-preserved : goal.loop-occurrence-preserved
loop-occurrence-preserved c =
    heard_next c.args.node c.args.occurrences.now c.loop-occurrence.occurrence-index c.occurrence-item.result _ _ _ c.loop-occurrence-test.true c.occurrence-item.is c.in_ok-add_heard.ensures c.loop-occurrence.invariant

pub returns : goal.returns
returns c = heard_end c.args.node c.args.occurrences.now c.loop-occurrence.occurrence-index _ _ c.loop-occurrence-test.false c.loop-occurrence.invariant
