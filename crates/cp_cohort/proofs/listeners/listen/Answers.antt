use Rattle.std.proofs.Common.{ap, ◌∙◌}
use Rattle.cp_lists.proofs.Items.{item_of_read}
use Rattle.cp_cohort.specs.Cohort.{Listens, GuardedTest}
use Rattle.cp_cohort.proofs.ChildLists.{puts_other, puts_first, puts_next, puts_last}
use Rattle.cp_cohort.proofs.ListenerChildren.{are_listeners}
use Rattle.cp_cohort.proofs.listeners.listen.Goals as goal

pub loop-term-init : goal.loop-term-init
loop-term-init c = puts_first (Listens c.args.guarded_test.now) c.deref-term-items.result.now c.args.children.now.items

pub listen_in-requires : goal.listen_in-requires
listen_in-requires c = record { copied = c.in_ok-k.ensures.same ∙ ap (λ (q : GuardedTest). q.skeleton) c.guarded_test.view_is }

pub loop-term-preserved : goal.loop-term-preserved
loop-term-preserved c =
    puts_next (Listens c.args.guarded_test.now) c.deref-term-items.result.now c.loop-term.term-index c.term-item.result (item_of_read c.deref-term-items.result.now c.loop-term.term-index c.term-item.result c.loop-term-test.true c.term-item.is)
    _ _ _ c.loop-term.invariant c.in_ok-listen_in.ensures

pub returns : goal.returns
returns c =
    puts_other c.args.children.now.items c.loop-term.children.items (are_listeners c.args.guarded_test.now c.in_ok-terms.terms.items c.in_ok-terms.ensures c.deref-term-items.result.now c.deref-term-items.ensures.value)
    (puts_last (Listens c.args.guarded_test.now) c.deref-term-items.result.now c.loop-term.term-index c.loop-term-test.false c.args.children.now.items c.loop-term.children.items c.loop-term.invariant)
