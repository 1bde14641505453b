use Rattle.std.proofs.Common.{rules}
use Rattle.cp_lists.proofs.Collected.{if_mapped}
use Rattle.cp_names.proofs.labels.occurring.Goals as goal

pub returns : goal.returns
returns c = if_mapped c.add_patterns.result c.map.result (λ u found e k. search rules) c.add_patterns.ensures c.map.ensures.cases
