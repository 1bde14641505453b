use Rattle.std.proofs.Common.{rules, ◌≡◌, Some}
use Rattle.cp_lists.proofs.Collected.{ok_mapped}
use Rattle.cp_order.specs.Closed.{IsClosureOf}
use Rattle.cp_order.proofs.JoinedPairs.{closure_with_pair}
use Rattle.cp_order.proofs.order.Order.closure_with.Goals as goal

pub returns : goal.returns
returns c =
    let h : IsClosureOf c.self.inside.pairs c.in-Some.closed.value = rw c.in-Some.is at c.self.invariant in
    ok_mapped c.with_pair.result c.map.result c.with_pair.ensures c.map.ensures.cases
    (λ closed joined found made.
    let is : found ≡ Some closed = search rules in
    rw is (closure_with_pair c.args.pair c.self.inside.pairs c.args.self.now c.in-Some.closed.value c.deref.result.now closed.value c.self.view_is h c.deref.ensures joined))
