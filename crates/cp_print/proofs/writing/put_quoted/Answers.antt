use Rattle.std.proofs.Common.{[], ◌∷◌}
use Rattle.cp_sexpr.specs.Pieces.{space, quote}
use Rattle.cp_print.proofs.SpelledItems.{then, same_text}
use Rattle.cp_print.proofs.writing.put_quoted.Goals as goal

pub returns : goal.returns
returns c =
    let text = c.args.text.now in
    then (space ∷ quote ∷ text) (quote ∷ []) (then (space ∷ quote ∷ []) text c.append.ensures (same_text c.as_bytes.ensures.value c.append-2.ensures)) c.push.ensures
