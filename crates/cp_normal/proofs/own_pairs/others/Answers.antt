use Rattle.std.proofs.Common.{rules, not, ◌∙◌}
use Rattle.std.specs.HashSet.{contains}
use Rattle.std.proofs.lemmas.Fn.{filter_same}
use Rattle.cp_model.specs.declared.node.OrderPair.{OrderPair}
use Rattle.cp_normal.specs.OwnPairs.{pair_key, is_same_key, is_other}
use Rattle.cp_normal.proofs.OwnPairs.{by_keys}
use Rattle.cp_normal.proofs.own_pairs.others.Goals as goal

pub returns-then-len-le-FEW : goal.returns-then-len-le-FEW
returns-then-len-le-FEW c = filter_same _ (is_other c.args.own.now) _ (λ x b q k. search rules) c.args.pairs.items c.retain.new.self.items c.retain.ensures.filtered

pub returns : goal.returns
returns c =
    let keep = λ (p : OrderPair). not (contains is_same_key c.in_ok-keys.keys (pair_key p)) in
    filter_same _ keep _ (λ x b q k. search rules) c.args.pairs.items c.retain-2.new.self.items c.retain-2.ensures.filtered
    ∙ by_keys c.in_ok-keys.keys c.args.own.now c.args.pairs.items c.in_ok-keys.ensures
