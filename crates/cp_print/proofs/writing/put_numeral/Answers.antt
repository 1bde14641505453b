use Rattle.std.proofs.Common.{[], ◌∷◌, decimal}
use Rattle.cp_sexpr.specs.Pieces.{space}
use Rattle.cp_print.proofs.SpelledItems.{then}
use Rattle.cp_print.proofs.writing.put_numeral.Goals as goal

pub returns : goal.returns
returns c = then (space ∷ []) (decimal c.args.number) c.push.ensures c.put_number.ensures
