use Rattle.std.proofs.Common.{rules, tests}
use Rattle.std.proofs.lemmas.Iterator.{YieldsList-from_slice}
use Rattle.std.proofs.lemmas.Iterator.Search.{any_from_yields_List}
use Rattle.cp_model.specs.declared.node.OrderPair.{OrderPair}
use Rattle.cp_normal.specs.OwnPairs.{pair_key, is_same_key}
use Rattle.cp_normal.proofs.own_pairs.is_among.Goals as goal

pub returns : goal.returns
returns c = any_from_yields_List (λ (p : OrderPair). is_same_key (pair_key p) (pair_key c.args.pair)) _ _ _ c.any.ensures.ran (YieldsList-from_slice c.args.pairs.now cc) (λ x b q k. search (rules, tests))
