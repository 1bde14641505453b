use Rattle.std.proofs.Common.{[], ◌∷◌}
use Rattle.cp_sexpr.specs.Pieces.{space}
use Rattle.cp_print.proofs.SpelledItems.{then, same_text}
use Rattle.cp_print.proofs.writing.put_word.Goals as goal

pub returns : goal.returns
returns c = then (space ∷ []) c.args.text.now c.push.ensures (same_text c.as_bytes.ensures.value c.append.ensures)
