use Rattle.std.proofs.lemmas.Option.{IfSome_then}
use Rattle.cp_order.proofs.JoinedPairs.{keeps_pushed, closure_pushed}
use Rattle.cp_order.proofs.order.Order.add.Goals as goal

pub invariant_of-self : goal.invariant_of-self
invariant_of-self c =
    IfSome_then c.in_ok-closure.closure c.in_ok-closure.ensures
    (λ v h. closure_pushed c.args.pair c.self.inside.pairs c.in_ok-pairs.pairs c.args.self.now v.value c.self.view_is (c.in_ok-pairs.ensures (λ x y e. e)) h)

pub returns-clause-leads : goal.returns-clause-leads
returns-clause-leads c = (keeps_pushed c.args.self.now c.self.inside.pairs c.in_ok-pairs.pairs c.args.pair c.self.view_is (c.in_ok-pairs.ensures (λ x y e. e))).leads

pub returns-clause-keeps : goal.returns-clause-keeps
returns-clause-keeps c = keeps_pushed c.args.self.now c.self.inside.pairs c.in_ok-pairs.pairs c.args.pair c.self.view_is (c.in_ok-pairs.ensures (λ x y e. e))
