use Rattle.std.proofs.Common.{arith, subst, sym, ◌∙◌, IsAscii}
use Rattle.cp_sexpr.specs.Pieces.{IsTokenByte}
use Rattle.cp_sexpr.proofs.Runs.{token_text, token_ascii, byte_refused, no_white_space, not_visible}
use Rattle.cp_sexpr.proofs.piece.next_piece.Goals as goal

pub returns-in_default-first-clause-piece : goal.returns-in_default-first-clause-piece
returns-in_default-first-clause-piece c =
    let is_token : IsTokenByte c.in-Some.first.now = grind arith in
    token_text c.args.bytes.now c.in-Some.first.now c.in-Some.rest.now c.run_length-in_default-first.result c.text_of.result.now c.split_at-in_default-first.result.1.now
    c.in-Some.ensures.cases.0 is_token c.run_length-in_default-first.ensures (c.text_of.ensures ∙ c.split_at-in_default-first.ensures.front) c.split_at-in_default-first.ensures.back

pub text_of-requires : goal.text_of-requires
text_of-requires c =
    subst IsAscii (sym c.split_at-in_default-first.ensures.front) (token_ascii c.args.bytes.now c.run_length-in_default-first.result c.run_length-in_default-first.ensures)

pub returns-in_default-2-clause-refused : goal.returns-in_default-2-clause-refused
returns-in_default-2-clause-refused c opened =
    byte_refused c.args.place opened c.args.bytes.now c.in-Some.first.now c.in-Some.rest.now c.in-Some.ensures.cases.0
    (no_white_space c.in-Some.first.now (λ e. grind arith) (λ e. grind arith) (λ e. grind arith) (λ e. grind arith))
    (not_visible c.in-Some.first.now (λ t. grind arith) (λ e. grind arith) (λ e. grind arith) (λ e. grind arith) (λ e. grind arith))
