use Rattle.std.proofs.Common.{refl}
use Rattle.cp_skel.proofs.AlreadyListed.{lists-start, lists-more, lists-all}
use Rattle.cp_skel.proofs.already_listed.listed_with_all.Goals as goal

pub loop-item-init : goal.loop-item-init
loop-item-init g c = lists-start g.met.T.Gathered.gathers c.args.old.now (λ xs. xs) c.args.stated.now c.args.start refl c.requires

pub loop-item-preserved : goal.loop-item-preserved
loop-item-preserved g c =
    lists-more g.met.T.Gathered.gathers c.args.old.now c.args.stated.now c.args.start c.loop-item.count _ c.loop-item.item-index c.item-item.result c.loop-item-test.true c.item-item.is
    c.loop-item.invariant c.in_ok-count.ensures

pub returns : goal.returns
returns g c = lists-all g.met.T.Gathered.gathers c.args.old.now (λ xs. xs) c.args.stated.now c.args.start c.loop-item.count c.loop-item.item-index c.loop-item-test.false c.loop-item.invariant
