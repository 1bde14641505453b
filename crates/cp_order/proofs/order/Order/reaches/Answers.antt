use Rattle.std.proofs.Common.{refl, subst}
use Rattle.cp_order.specs.Closed.{IsClosureOf}
use Rattle.cp_order.proofs.JoinedPairs.{asked_closure, asked_open}
use Rattle.cp_order.proofs.order.Order.reaches.Goals as goal

pub returns-in-Some : goal.returns-in-Some
returns-in-Some c =
    let h : IsClosureOf c.self.inside.pairs c.in-Some.closed.value = rw c.in-Some.is at c.self.invariant in
    let moved : IsClosureOf c.args.self.now c.in-Some.closed.value = subst (λ ps. IsClosureOf ps c.in-Some.closed.value) c.self.view_is h in
    asked_closure c.args.self.now c.in-Some.closed.value c.deref.result.now c.args.x c.args.y c.reaches.result moved c.deref.ensures c.reaches.ensures

pub returns-in-None : goal.returns-in-None
returns-in-None c =
    asked_open c.pairs-pairs.result.now c.args.self.now c.args.x c.args.y c.leads_within.result c.pairs-pairs.ensures
    _ refl c.leads_within.ensures
