use Rattle.cp_skel.proofs.EachOnce.{kept-both}
use Rattle.cp_skel.proofs.gathered.stated_first.Goals as goal

pub returns : goal.returns
returns g c =
    kept-both g.met.T.Gathered.gathers c.args.old.now c.args.first.now c.args.second.now c.new-listed.result.items _ _ _
    c.new-listed.ensures.items c.in_ok-add_stated.ensures c.in_ok-add_stated-2.ensures c.in_ok-add_missing.ensures
