use Rattle.std.proofs.Common.{rules}
use Rattle.cp_lists.proofs.Collected.{if_mapped}
use Rattle.cp_spelled.proofs.locals.locals_in.Goals as goal

pub returns : goal.returns
returns c = if_mapped c.add_locals.result c.map.result (λ u found e k. search rules) c.add_locals.ensures c.map.ensures.cases
