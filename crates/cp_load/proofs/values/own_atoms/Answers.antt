use Rattle.std.proofs.Common.{rules}
use Rattle.cp_lists.proofs.Collected.{if_mapped}
use Rattle.cp_load.proofs.values.own_atoms.Goals as goal

pub returns : goal.returns
returns c = if_mapped c.add_atoms.result c.map.result (λ u found e k. search rules) c.add_atoms.ensures c.map.ensures.cases
