use Rattle.cp_skel.proofs.EachOnce.{if_pushed}
use Rattle.cp_search.proofs.JoinedRows.{puts_one}
use Rattle.cp_search.proofs.reachability.put.Goals as goal

pub returns : goal.returns
returns c =
    let row = c.index_mut-row.result.now in
    if_pushed row.items c.push.result c.map_err.result c.push.ensures.items c.map_err.ensures.variant
    (λ pushed. puts_one c.args.rows.now.items c.args.row c.args.number row c.push.new.self c.requires.within c.requires.apart c.index_mut-row.ensures.value pushed)
