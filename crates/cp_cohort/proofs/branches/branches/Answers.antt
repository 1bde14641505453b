use Rattle.cp_cohort.proofs.BranchLoops.{no_branches_yet, puts_none, never_put, branch_put, next_pattern, all_patterns, next_encryption, all_encryptions}
use Rattle.cp_cohort.proofs.branches.branches.Goals as goal

pub loop-encryption-init : goal.loop-encryption-init
loop-encryption-init c = no_branches_yet c.args.tried.now _ c.new-branches.ensures.items

pub loop-pattern-init : goal.loop-pattern-init
loop-pattern-init c = puts_none c.args.tried.now _

pub loop-pattern-preserved-in-None : goal.loop-pattern-preserved-in-None
loop-pattern-preserved-in-None c =
    next_pattern c.args.tried.now c.encryption-item.result c.args.patterns.now c.loop-pattern.pattern-index c.pattern-item.result c.loop-pattern-test.true c.pattern-item.is _ _ _ c.loop-pattern.invariant
    (never_put c.args.tried.now c.encryption-item.result c.pattern-item.result _ (rw c.in-None.is at c.in_ok-next.ensures))

pub loop-pattern-preserved : goal.loop-pattern-preserved
loop-pattern-preserved c =
    next_pattern c.args.tried.now c.encryption-item.result c.args.patterns.now c.loop-pattern.pattern-index c.pattern-item.result c.loop-pattern-test.true c.pattern-item.is _ _ _ c.loop-pattern.invariant
    (branch_put c.args.tried.now c.encryption-item.result c.pattern-item.result c.in-Some.next _ _ (rw c.in-Some.is at c.in_ok-next.ensures) c.in_ok-push.ensures.items)

pub loop-encryption-preserved : goal.loop-encryption-preserved
loop-encryption-preserved c =
    next_encryption c.args.tried.now c.args.patterns.now c.args.encryptions.now c.loop-encryption.encryption-index c.encryption-item.result c.loop-encryption-test.true c.encryption-item.is _ _ c.loop-encryption.invariant
    (all_patterns c.args.tried.now c.encryption-item.result c.args.patterns.now c.loop-pattern.pattern-index _ _ c.loop-pattern-test.false c.loop-pattern.invariant)

pub returns : goal.returns
returns c = all_encryptions c.args.tried.now c.args.patterns.now c.args.encryptions.now c.loop-encryption.encryption-index _ c.loop-encryption-test.false c.loop-encryption.invariant
