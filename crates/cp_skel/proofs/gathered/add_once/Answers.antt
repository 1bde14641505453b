use Rattle.cp_skel.proofs.EachOnce.{put-known, put-new, if_pushed}
use Rattle.cp_skel.proofs.gathered.add_once.Goals as goal

pub returns-then-has-clause-added : goal.returns-then-has-clause-added
returns-then-has-clause-added g c = put-known g.met.T.Gathered.gathers c.args.items.now.items c.deref.result.now c.args.item c.has.result c.deref.ensures.value c.has.ensures.0 c.if-has.true

pub returns-clause-added : goal.returns-clause-added
returns-clause-added g c =
    if_pushed c.args.items.now.items c.push.result c.map_err.result c.push.ensures.items c.map_err.ensures.variant
    (put-new g.met.T.Gathered.gathers c.args.items.now.items c.deref.result.now c.push.new.self.items c.args.item c.has.result c.deref.ensures.value c.has.ensures.1 c.if-has.false)
