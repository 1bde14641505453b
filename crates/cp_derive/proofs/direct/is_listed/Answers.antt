use Rattle.std.proofs.Common.{rules, tests, ◌≡◌, sym}
use Rattle.std.proofs.lemmas.Bool.{MatchBool-at_true}
use Rattle.std.proofs.lemmas.Iterator.{cases_from_any, YieldsList-from_slice}
use Rattle.cp_lists.proofs.Members.{item_is_in}
use Rattle.cp_model.specs.declared.node.OrderPair.{OrderPair}
use Rattle.cp_derive.proofs.direct.is_listed.Goals as goal

pub returns : goal.returns
returns c = λ r.
    let pairs = c.args.pairs.now in
    let is = λ (other : OrderPair). other ≡ c.args.pair in
    let found = MatchBool-at_true _ _ r (cases_from_any _ _ _ is (λ (other : OrderPair). is other → ⊥) c.any.ensures.ran (YieldsList-from_slice pairs cc) (λ x q k. search (rules, tests)) (λ x q k. search (rules, tests))) in
    item_is_in pairs found.0 c.args.pair found.1 (sym (found.2 c.args.pair))
