use Rattle.std.proofs.Common.{rules}
use Rattle.cp_sexpr.specs.View.{view}
use Rattle.cp_language.specs.Problems.{number_of}
use Rattle.cp_lists.proofs.Collected.{all_from_slice}
use Rattle.cp_stated.proofs.stated_strands.numbers_of.Goals as goal

pub returns : goal.returns
returns c = all_from_slice c.map.result number_of view c.args.items.now c.collect.result c.collect.ensures.ran (search rules) c.map.ensures.closure (λ x y q k. search rules)
