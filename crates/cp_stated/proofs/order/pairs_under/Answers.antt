use Rattle.std.proofs.Common.{rules}
use Rattle.cp_lists.proofs.Collected.{if_mapped}
use Rattle.cp_stated.proofs.order.pairs_under.Goals as goal

pub returns : goal.returns
returns c = if_mapped c.add_pairs.result c.map.result (λ u found e k. search rules) c.add_pairs.ensures c.map.ensures.cases
