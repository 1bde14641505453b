use Rattle.std.proofs.Common.{rules}
use Rattle.cp_lists.proofs.Collected.{if_mapped}
use Rattle.cp_stated.proofs.skeleton_items.given_by.Goals as goal

pub returns : goal.returns
returns c = if_mapped c.add_given.result c.map.result (λ u found e k. search rules) c.add_given.ensures c.map.ensures.cases
