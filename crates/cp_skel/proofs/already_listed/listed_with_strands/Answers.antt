use Rattle.cp_skel.proofs.AlreadyListed.{each_start, each_more, each_all, each_within}
use Rattle.cp_skel.proofs.already_listed.listed_with_strands.Goals as goal

pub listed_with_strand-requires : goal.listed_with_strand-requires
listed_with_strand-requires c = each_within c.args.old.now _ c.args.start c.loop-number.counts c.loop-number.invariant

pub loop-number-init : goal.loop-number-init
loop-number-init c = each_start c.args.old.now c.args.start c.args.strands.now c.requires

pub loop-number-preserved : goal.loop-number-preserved
loop-number-preserved c =
    each_more c.args.old.now c.args.start c.loop-number.counts _ c.args.strands.now c.loop-number.number c.index-strands-number.result
    c.loop-number-test.true c.index-strands-number.is c.loop-number.invariant c.in_ok-counts.ensures

pub returns : goal.returns
returns c = each_all c.args.old.now c.args.start c.loop-number.counts c.args.strands.now c.loop-number.number c.loop-number-test.false c.loop-number.invariant
