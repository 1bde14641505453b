use Rattle.std.proofs.Common.{rules}
use Rattle.cp_lists.proofs.Collected.{if_mapped}
use Rattle.cp_load.proofs.values.own_uniques.Goals as goal

pub returns : goal.returns
returns c = if_mapped c.add_own_uniques.result c.map.result (λ u found e k. search rules) c.add_own_uniques.ensures c.map.ensures.cases
