use Rattle.std.proofs.Common.{length, take, ◌≤◌, subst}
use Rattle.cp_lists.proofs.Items.{item_of_read}
use Rattle.cp_cohort.specs.Cohort.{GuardedTest}
use Rattle.cp_cohort.proofs.ListenerChildren.{IsHeardSoFar, heard_first, heard_next, heard_last}
use Rattle.cp_cohort.proofs.listeners.heard.Goals as goal

pub loop-pattern-init : goal.loop-pattern-init
loop-pattern-init c = heard_first c.args.guarded_test.now c.new-terms.result.items c.add_freeing.new.terms.items c.new-terms.ensures.items c.in_ok-add_freeing.ensures

pub loop-pattern-preserved : goal.loop-pattern-preserved
loop-pattern-preserved c =
    heard_next c.args.guarded_test.now c.guarded_test.inside.patterns.now c.loop-pattern.pattern-index c.pattern-item.result c.in_ok-term.term
    (item_of_read c.guarded_test.inside.patterns.now c.loop-pattern.pattern-index c.pattern-item.result c.loop-pattern-test.true c.pattern-item.is) c.loop-pattern.terms.items c.add_term.new.terms.items c.loop-pattern.invariant c.in_ok-term.ensures c.in_ok-add_term.ensures

pub returns : goal.returns
returns c =
    heard_last c.args.guarded_test.now c.loop-pattern.pattern-index c.loop-pattern.terms.items
    (subst (λ (q : GuardedTest). length q.patterns ≤ c.loop-pattern.pattern-index) c.guarded_test.view_is c.loop-pattern-test.false)
    (subst (λ (q : GuardedTest). IsHeardSoFar c.args.guarded_test.now (take c.loop-pattern.pattern-index q.patterns) c.loop-pattern.terms.items) c.guarded_test.view_is c.loop-pattern.invariant)
