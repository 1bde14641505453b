use Rattle.std.proofs.Common.{rules}
use Rattle.cp_lists.proofs.Collected.{if_mapped}
use Rattle.cp_names.proofs.locals.variables_of.Goals as goal

pub returns : goal.returns
returns c = if_mapped c.add_term.result c.map.result (λ u found e k. search rules) c.add_term.ensures c.map.ensures.cases
