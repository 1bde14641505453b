use Rattle.std.proofs.lemmas.Str.{IsUtf8-from_ascii}
use Rattle.cp_sexpr.proofs.Runs.{ok_where_no_error}
use Rattle.cp_sexpr.proofs.piece.text_of.Goals as goal

pub unwrap-requires : goal.unwrap-requires
unwrap-requires c = ok_where_no_error c.from_utf8.result _ _ c.from_utf8.ensures.cases (λ e h. h.0 (IsUtf8-from_ascii c.args.bytes.now c.requires))
