use Rattle.std.proofs.Common.{rules}
use Rattle.cp_lists.proofs.Collected.{if_mapped}
use Rattle.cp_roots.proofs.gathered_roots.copy_operation.Goals as goal

pub returns-in-Collapsed : goal.returns-in-Collapsed
returns-in-Collapsed c = if_mapped c.copy.result c.map.result (λ partition made same k. search rules) c.copy.ensures c.map.ensures.cases
