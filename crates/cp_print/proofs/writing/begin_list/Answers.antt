use Rattle.std.proofs.Common.{[], ◌∷◌}
use Rattle.cp_print.proofs.SpelledItems.{then, same_text}
use Rattle.cp_print.proofs.writing.begin_list.Goals as goal

pub returns : goal.returns
returns c = then (10 ∷ 32 ∷ 32 ∷ 40 ∷ []) c.args.head.now c.append.ensures (same_text c.as_bytes.ensures.value c.append-2.ensures)
