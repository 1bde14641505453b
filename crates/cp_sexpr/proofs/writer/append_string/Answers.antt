use Rattle.std.proofs.Common.{[], ◌∷◌, ◌++◌, sym, ap}
use Rattle.cp_sexpr.specs.Pieces.{quote}
use Rattle.cp_sexpr.proofs.GrownText.{three_parts}
use Rattle.cp_sexpr.proofs.writer.append_string.Goals as goal

pub returns : goal.returns
returns c = three_parts c.args.out.now c.push.new.self c.append.new.self c.push-2.new.self (quote ∷ []) c.as_bytes.result.now (quote ∷ []) _ c.push.ensures c.append.ensures c.push-2.ensures (ap (λ t. quote ∷ (t ++ quote ∷ [])) (sym c.as_bytes.ensures))
