use Rattle.cp_search.proofs.JoinedRows.{row_within, not_yet_put, row_put, put_in_all}
use Rattle.cp_search.proofs.reachability.put_each.Goals as goal

pub put-requires-clause-within : goal.put-requires-clause-within
put-requires-clause-within c =
    row_within c.args.chosen.now c.loop-row.row-index c.args.number c.loop-row-test.true c.args.rows.now.items c.loop-row.rows.items c.loop-row.invariant c.requires.within

pub put-requires-clause-apart : goal.put-requires-clause-apart
put-requires-clause-apart c =
    not_yet_put c.args.chosen.now c.loop-row.row-index c.args.number c.loop-row-test.true c.args.rows.now.items c.loop-row.rows.items c.loop-row.invariant c.requires.distinct c.requires.apart

pub loop-row-preserved : goal.loop-row-preserved
loop-row-preserved c =
    row_put c.args.chosen.now c.loop-row.row-index c.args.number c.loop-row-test.true c.args.rows.now.items c.loop-row.rows.items c.loop-row.invariant c.put.new.rows.items c.in_ok-put.ensures

pub returns : goal.returns
returns c = put_in_all c.args.chosen.now c.loop-row.row-index c.args.number c.loop-row-test.false c.args.rows.now.items c.loop-row.rows.items c.loop-row.invariant
