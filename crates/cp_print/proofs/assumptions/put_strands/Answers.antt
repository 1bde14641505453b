use Rattle.std.proofs.Common.{map}
use Rattle.cp_language.specs.Printed.{numeral}
use Rattle.cp_print.proofs.SpelledItems.{any_list}
use Rattle.cp_print.proofs.assumptions.put_strands.Goals as goal

pub returns : goal.returns
returns c = any_list (map numeral c.args.strands.now) c.append.ensures c.put_numbers.ensures c.push.ensures
