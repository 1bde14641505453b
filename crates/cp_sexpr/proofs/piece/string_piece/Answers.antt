use Rattle.std.proofs.Common.{◌≡◌, ◌∷◌, drop, take, sym, ap, ◌∙◌, subst, arith, IsAscii}
use Rattle.std.proofs.lemmas.List.{nil_from_length}
use Rattle.cp_base.specs.declared.place.Code.TheVariants.{BadByte, OpenString}
use Rattle.cp_sexpr.specs.Pieces.{quoted, quote, BeginsWith, EndsLine, place_after}
use Rattle.cp_sexpr.specs.Reading.{IsRefused, refusal}
use Rattle.cp_sexpr.proofs.Runs.{string_text, string_ascii, string_begins, string_open, string_byte_refused, front_of_string}
use Rattle.cp_sexpr.proofs.piece.string_piece.Goals as goal

pub returns-in_default-clause-refused : goal.returns-in_default-clause-refused
returns-in_default-clause-refused c opened =
    let tail = c.split_at.result.1.now in
    let n = c.run_length-length.result in
    let text = string_text c.args.bytes.now tail c.requires.begins c.split_at.ensures.back in
    let end = sym c.split_at-2.ensures.back ∙ nil_from_length c.split_at-2.result.1.now c.in_default.ensures.cases in
    subst (λ t. IsRefused c.args.place opened t (refusal c.args.place OpenString)) (sym text)
    (string_open c.args.place opened tail n c.run_length-length.ensures (subst EndsLine (sym end) tt))

pub returns-in-34-clause-piece : goal.returns-in-34-clause-piece
returns-in-34-clause-piece c =
    let tail = c.split_at.result.1.now in
    let n = c.run_length-length.result in
    let rest = c.in-Some.rest.now in
    let text = string_text c.args.bytes.now tail c.requires.begins c.split_at.ensures.back in
    let next : drop n tail ≡ quote ∷ rest = sym c.split_at-2.ensures.back ∙ c.in-Some.ensures.cases.0 ∙ ap (λ b. b ∷ rest) c.in-34.is in
    subst (λ t. BeginsWith t (quoted c.text_of.result.now) rest) (sym text)
    (subst (λ t. BeginsWith (quote ∷ tail) (quoted t) rest) (sym (c.text_of.ensures ∙ c.split_at-2.ensures.front))
    (string_begins tail n rest c.run_length-length.ensures next))

pub text_of-requires : goal.text_of-requires
text_of-requires c =
    subst IsAscii (sym c.split_at-2.ensures.front) (string_ascii c.split_at.result.1.now c.run_length-length.result c.run_length-length.ensures)

pub returns-in-10-clause-refused : goal.returns-in-10-clause-refused
returns-in-10-clause-refused c opened =
    let tail = c.split_at.result.1.now in
    let n = c.run_length-length.result in
    let text = string_text c.args.bytes.now tail c.requires.begins c.split_at.ensures.back in
    let next = sym c.split_at-2.ensures.back ∙ c.in-Some.ensures.cases.0 in
    subst (λ t. IsRefused c.args.place opened t (refusal c.args.place OpenString)) (sym text)
    (string_open c.args.place opened tail n c.run_length-length.ensures (subst EndsLine (sym next) c.in-10.is))

pub returns-in_default-byte-clause-refused : goal.returns-in_default-byte-clause-refused
returns-in_default-byte-clause-refused c opened =
    let tail = c.split_at.result.1.now in
    let n = c.run_length-length.result in
    let text = string_text c.args.bytes.now tail c.requires.begins c.split_at.ensures.back in
    let next = sym c.split_at-2.ensures.back ∙ c.in-Some.ensures.cases.0 in
    let before = c.split_at-in_default-byte.ensures.front ∙ front_of_string c.args.bytes.now tail n text in
    let place = c.place_after.ensures ∙ ap (place_after c.args.place) before in
    subst (λ p. IsRefused c.args.place opened c.args.bytes.now (refusal p BadByte)) (sym place)
    (subst (λ t. IsRefused c.args.place opened t (refusal (place_after c.args.place (quote ∷ take n tail)) BadByte)) (sym text)
    (string_byte_refused c.args.place opened tail n c.in-Some.byte.now c.in-Some.rest.now c.run_length-length.ensures next (λ e. grind arith) (λ e. grind arith)))
