use Rattle.std.proofs.Common.{[], ◌∷◌}
use Rattle.cp_language.specs.Printed.{variable}
use Rattle.cp_sexpr.specs.Pieces.{space}
use Rattle.cp_sexpr.specs.Spelling.{spelling}
use Rattle.cp_print.specs.Named.{named_in}
use Rattle.cp_print.proofs.SpelledItems.{then}
use Rattle.cp_print.proofs.terms.put_variable.Goals as goal

pub returns : goal.returns
returns c = then (space ∷ []) (spelling (named_in c.args.naming.now (variable c.args.sort c.args.id))) c.push.ensures c.put.ensures
