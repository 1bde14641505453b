use Rattle.std.proofs.Common.{rules, tests, true, inl, ◌≡◌, ◌↔◌}
use Rattle.std.proofs.lemmas.Iterator.{cases_from_any, YieldsList-from_slice}
use Rattle.cp_model.specs.declared.node.OrderPair.{OrderPair}
use Rattle.cp_skel.proofs.EachOnce.{if_pushed}
use Rattle.cp_collapse.specs.Property.{Has}
use Rattle.cp_collapse.proofs.AnyItem.{some_has}
use Rattle.cp_collapse.proofs.ImagesOnce.{listed_stays}
use Rattle.cp_collapse.proofs.images.put_pair.Goals as goal

pub returns-then-any : goal.returns-then-any
returns-then-any c =
    let has = λ (other : OrderPair). other ≡ c.args.pair in
    let some : (c.any.result ≡ true) ↔ Has has c.args.pairs.now.items = some_has has _ _ (cases_from_any _ _ _ has (λ (other : OrderPair). has other → ⊥) c.any.ensures.ran (YieldsList-from_slice c.args.pairs.now.items cc) (λ x q k. search (rules, tests)) (λ x q k. search (rules, tests))) in
    listed_stays c.args.pair c.args.pairs.now.items (some.0 c.if-any.true)

pub returns : goal.returns
returns c = if_pushed c.args.pairs.now.items c.push.result c.map_err.result c.push.ensures.items c.map_err.ensures.variant (λ added. inl added)
