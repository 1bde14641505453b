use Rattle.cp_scope.proofs.PairedTerms.{paired-step}
use Rattle.cp_scope.proofs.terms.paired.Goals as goal

pub loop-left-preserved : goal.loop-left-preserved
loop-left-preserved c =
    paired-step c.args.terms.items c.loop-left.terms.items c.pop-in-loop-left.new.self.items c.in-Some-pop.left c.loop-left.right c.in_ok-right.right
    c.in-Some-pop.ensures.items c.in_ok-right.ensures.plain c.loop-left.invariant
