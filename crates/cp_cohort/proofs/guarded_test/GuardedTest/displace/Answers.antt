use Rattle.std.proofs.Common.{◌≡◌, ◌<◌, ◌≤◌, List, length, ap, ◌∙◌, sym, arith}
use Rattle.cp_lists.specs.Lists.{item_at}
use Rattle.cp_lists.proofs.Items.{item_of_read}
use Rattle.cp_model.specs.Problem.{numbers_from}
use Rattle.cp_model.specs.Skeleton.{SkeletonStrand}
use Rattle.cp_cohort.specs.Cohort.{DisplacesStrand, GuardedTest}
use Rattle.cp_cohort.proofs.ChildLists.{puts_first, puts_next, puts_last, number_there, numbers_past}
use Rattle.cp_cohort.proofs.guarded_test.GuardedTest.displace.Goals.{After-strands-strand-items}
use Rattle.cp_cohort.proofs.guarded_test.GuardedTest.displace.Goals as goal

-- the strands that are read are the test's
strands_are : (c : After-strands-strand-items) → c.strands-strand-items.result.now ≡ c.args.self.now.skeleton.strands
strands_are c = c.strands-strand-items.ensures ∙ ap (λ (q : GuardedTest). q.skeleton.strands) c.self.view_is

pub loop-number-init : goal.loop-number-init
loop-number-init c = puts_first (DisplacesStrand c.args.self.now) (numbers_from 0 c.args.self.now.skeleton.strands) c.args.children.now.items

pub displace_strand-requires : goal.displace_strand-requires
displace_strand-requires c = record {
  there = ap (λ (ss : List SkeletonStrand). item_at ss c.loop-number.number) (sym (strands_are (goal.at.displace_strand-requires c).After-strands-strand-items))
      ∙ item_of_read c.strands-strand-items.result.now c.loop-number.number c.strand-item.result c.loop-number-test.true c.strand-item.is;
}

pub loop-number-preserved : goal.loop-number-preserved
loop-number-preserved c =
    let q = c.args.self.now in
    let same : length c.strands-strand-items.result.now ≡ length q.skeleton.strands = ap length (strands_are (goal.at.loop-number-preserved c).After-strands-strand-items) in
    let lt : c.loop-number.number < length q.skeleton.strands = omega (arith, same, c.loop-number-test.true) in
    puts_next (DisplacesStrand q) (numbers_from 0 q.skeleton.strands) c.loop-number.number c.loop-number.number (number_there q.skeleton.strands c.loop-number.number lt) _ _ _ c.loop-number.invariant c.in_ok-displace_strand.ensures

pub returns : goal.returns
returns c =
    let q = c.args.self.now in
    let same : length c.strands-strand-items.result.now ≡ length q.skeleton.strands = ap length (strands_are (goal.at.returns c).After-strands-strand-items) in
    let past : length q.skeleton.strands ≤ c.loop-number.number = omega (arith, same, c.loop-number-test.false) in
    puts_last (DisplacesStrand q) (numbers_from 0 q.skeleton.strands) c.loop-number.number (numbers_past q.skeleton.strands c.loop-number.number past) _ _ c.loop-number.invariant
