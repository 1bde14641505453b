use Rattle.std.proofs.Common.{rules, append_assoc}
use Rattle.cp_lists.proofs.Collected.{if_mapped}
use Rattle.cp_derive.proofs.assumed.assumed_values.Goals as goal

pub returns : goal.returns
returns c = if_mapped c.add_uniques.result c.map.result (λ u ts e k. search (rules, append_assoc)) c.add_uniques.ensures c.map.ensures.cases
