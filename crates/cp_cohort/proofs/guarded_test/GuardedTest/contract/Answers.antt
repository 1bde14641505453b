use Rattle.std.proofs.Common.{◌≡◌, ◌∙◌, ap}
use Rattle.cp_lists.proofs.Items.{item_of_read}
use Rattle.cp_derive.specs.AtNode.{SkeletonNode}
use Rattle.cp_skel.specs.Events.{events_of}
use Rattle.cp_cohort.specs.Cohort.{GuardedTest}
use Rattle.cp_cohort.specs.Children.{ContractsEvent}
use Rattle.cp_cohort.proofs.ChildLists.{puts_other, puts_first, puts_next, puts_last}
use Rattle.cp_cohort.proofs.ContractedChildren.{all_contracted}
use Rattle.cp_cohort.proofs.guarded_test.GuardedTest.contract.Goals as goal

pub loop-occurrence-init : goal.loop-occurrence-init
loop-occurrence-init c = puts_first (ContractsEvent c.args.self.now) c.events-occurrences.result.now c.args.children.now.items

pub loop-occurrence-preserved : goal.loop-occurrence-preserved
loop-occurrence-preserved c =
    puts_next (ContractsEvent c.args.self.now) c.events-occurrences.result.now c.loop-occurrence.occurrence-index c.occurrence-item.result
    (item_of_read c.events-occurrences.result.now c.loop-occurrence.occurrence-index c.occurrence-item.result c.loop-occurrence-test.true c.occurrence-item.is) _ _ _ c.loop-occurrence.invariant c.in_ok-contract_event.ensures

pub returns : goal.returns
returns c =
    let q = c.args.self.now in
    let all : c.events-occurrences.result.now ≡ events_of q.skeleton = c.events-occurrences.ensures ∙ ap (λ (z : SkeletonNode). events_of z.skeleton) c.self.invariant.0 ∙ ap (λ (z : GuardedTest). events_of z.skeleton) c.self.view_is in
    puts_other c.args.children.now.items c.loop-occurrence.children.items (all_contracted q c.events-occurrences.result.now all)
    (puts_last (ContractsEvent q) c.events-occurrences.result.now c.loop-occurrence.occurrence-index c.loop-occurrence-test.false c.args.children.now.items c.loop-occurrence.children.items c.loop-occurrence.invariant)
