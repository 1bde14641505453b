-- Pieces of a text that has words and lists, with one or several spaces and line feeds between them.
use Rattle.std.proofs.Common.{◌≡◌, ℕ, suc, ◌-◌, ◌==◌, ◌&&◌, ◌||◌, not, nat_lt, nat_le, List, [], ◌∷◌, ◌++◌, length, drop, Bool, true, false, if◌then◌else◌, refl, ap, arith, append_assoc, length-drop, ltb-true}
use Rattle.std.proofs.lemmas.Bool.{and_parts, not-true}
use Rattle.std.proofs.lemmas.Bool.Decides.{nat_tests}
use Rattle.std.specs.List.{AllByRecursion}
use Rattle.cp_base.specs.declared.place.Place.{Place}
use Rattle.cp_base.specs.declared.place.Code.{Code}
use Rattle.cp_sexpr.proofs.Grammar.{no_digit_first}
use Rattle.cp_sexpr.specs.Pieces.{Piece, blank, comment, opening, closing, quoted, token, spelling, space, line_feed, quote, semicolon, open_parenthesis, close_parenthesis, IsWhiteSpace, IsTokenByte, IsToken, BeginsWithout, IsCut, after_piece}
use Rattle.cp_sexpr.specs.UnfinishedForms.{begins_with_digit}
use Rattle.cp_sexpr.specs.Written.{IsRefusedPiece, AreAccepted, max_depth}

-- ---- cutting

-- A byte of a word stands before these pieces.
abbrev with_byte : ℕ → List Piece → List Piece
with_byte b (token t ∷ ps) = token (b ∷ t) ∷ ps
with_byte b ps = token (b ∷ []) ∷ ps

abbrev is_blank : ℕ → Bool
is_blank b = (b == space) || (b == line_feed)

abbrev pub pieces_of : List ℕ → List Piece
pieces_of [] = []
pieces_of (b ∷ bs) =
    if b == open_parenthesis then opening ∷ pieces_of bs else
    if b == close_parenthesis then closing ∷ pieces_of bs else
    if is_blank b then blank b ∷ pieces_of bs else with_byte b (pieces_of bs)

-- the text that pieces spell
abbrev pub text_of : List Piece → List ℕ
text_of [] = []
text_of (p ∷ ps) = spelling p ++ text_of ps

-- ---- a test of pieces

abbrev is_token_byte : ℕ → Bool
is_token_byte b =
    nat_le 33 b && nat_le b 126 && not (b == open_parenthesis) && not (b == close_parenthesis) && not (b == quote) && not (b == semicolon)

abbrev are_token_bytes : List ℕ → Bool
are_token_bytes [] = true
are_token_bytes (b ∷ bs) = is_token_byte b && are_token_bytes bs

-- A word is one byte, or does not begin with a digit.
abbrev is_word : List ℕ → Bool
is_word [] = false
is_word (b ∷ []) = is_token_byte b
is_word (b ∷ c ∷ t) = not (begins_with_digit (b ∷ c ∷ t)) && are_token_bytes (b ∷ c ∷ t)

abbrev begins_with_word : List Piece → Bool
begins_with_word (token t ∷ ps) = true
begins_with_word ps = false

-- With so many lists open, each piece may stand where it does, and no word stands right behind another.
abbrev pub are_plain : ℕ → List Piece → Bool
are_plain depth [] = true
are_plain depth (opening ∷ ps) = nat_lt depth max_depth && are_plain (suc depth) ps
are_plain depth (closing ∷ ps) = nat_lt 0 depth && are_plain (depth - 1) ps
are_plain depth (blank b ∷ ps) = is_blank b && are_plain depth ps
are_plain depth (token t ∷ ps) = (is_word t && not (begins_with_word ps)) && are_plain depth ps
are_plain depth (comment t ∷ ps) = false
are_plain depth (quoted t ∷ ps) = false

-- ---- what it says

white_space : (b : ℕ) → is_blank b ≡ true → IsWhiteSpace b
white_space b e = grind (arith, nat_tests)

not_in_word : (b : ℕ) → is_blank b ≡ true → IsTokenByte b → ⊥
not_in_word b e h = grind (arith, nat_tests)

token_byte : (b : ℕ) → is_token_byte b ≡ true → IsTokenByte b
token_byte b e = grind (arith, nat_tests)

token_bytes : (t : List ℕ) → are_token_bytes t ≡ true → AllByRecursion IsTokenByte t
token_bytes [] e = tt
token_bytes (b ∷ t) e = let h = and_parts (is_token_byte b) (are_token_bytes t) e in (token_byte b h.0, token_bytes t h.1)

is_token : (t : List ℕ) → is_word t ≡ true → IsToken t
is_token [] e = cc
is_token (b ∷ []) e = (omega arith, (token_byte b e, tt))
is_token (b ∷ c ∷ t) e = (omega arith, token_bytes (b ∷ c ∷ t) (and_parts (not (begins_with_digit (b ∷ c ∷ t))) (are_token_bytes (b ∷ c ∷ t)) e).1)

not_refused : (opened : List Place) (t : List ℕ) → is_word t ≡ true → (code : Code) → IsRefusedPiece opened (token t) code → ⊥
not_refused opened [] e code r = r.0
not_refused opened (b ∷ []) e code r = r.1 (omega arith, omega arith, (r.0, tt))
not_refused opened (b ∷ c ∷ t) e code r =
    no_digit_first (b ∷ c ∷ t) (not-true (begins_with_digit (b ∷ c ∷ t)) (and_parts (not (begins_with_digit (b ∷ c ∷ t))) (are_token_bytes (b ∷ c ∷ t)) e).0) r.0

-- A word ends where these pieces begin.
ends_word : (ps : List Piece) (depth : ℕ) (rest : List ℕ) → are_plain depth ps ≡ true → begins_with_word ps ≡ false → BeginsWithout IsTokenByte rest → BeginsWithout IsTokenByte (text_of ps ++ rest)
ends_word [] depth rest plain other h = h
ends_word (opening ∷ ps) depth rest plain other h = λ k. k.2 refl
ends_word (closing ∷ ps) depth rest plain other h = λ k. k.3 refl
ends_word (blank b ∷ ps) depth rest plain other h = not_in_word b (and_parts (is_blank b) (are_plain depth ps) plain).0
ends_word (token t ∷ ps) depth rest plain other h = cc
ends_word (comment t ∷ ps) depth rest plain other h = cc
ends_word (quoted t ∷ ps) depth rest plain other h = cc

-- Their text is cut into these pieces.
pub are_cut : (ps : List Piece) (depth : ℕ) (rest : List ℕ) → are_plain depth ps ≡ true → BeginsWithout IsTokenByte rest → IsCut (text_of ps ++ rest) ps rest
are_cut [] depth rest plain h = refl
are_cut (opening ∷ ps) depth rest plain h =
    (text_of ps ++ rest, record { piece = tt; spelled = refl; whole = tt }, are_cut ps (suc depth) rest (and_parts (nat_lt depth max_depth) (are_plain (suc depth) ps) plain).1 h)
are_cut (closing ∷ ps) depth rest plain h =
    (text_of ps ++ rest, record { piece = tt; spelled = refl; whole = tt }, are_cut ps (depth - 1) rest (and_parts (nat_lt 0 depth) (are_plain (depth - 1) ps) plain).1 h)
are_cut (blank b ∷ ps) depth rest plain h =
    let e = and_parts (is_blank b) (are_plain depth ps) plain in
    (text_of ps ++ rest, record { piece = white_space b e.0; spelled = refl; whole = tt }, are_cut ps depth rest e.1 h)
are_cut (token t ∷ ps) depth rest plain h =
    let e = and_parts (is_word t && not (begins_with_word ps)) (are_plain depth ps) plain in
    let w = and_parts (is_word t) (not (begins_with_word ps)) e.0 in
    let ends = ends_word ps depth rest e.1 (not-true (begins_with_word ps) w.1) h in
    (text_of ps ++ rest, record { piece = is_token t w.0; spelled = append_assoc t (text_of ps) rest; whole = ends }, are_cut ps depth rest e.1 h)
are_cut (comment t ∷ ps) depth rest plain h = cc
are_cut (quoted t ∷ ps) depth rest plain h = cc

-- None of them is refused.
pub are_accepted : (ps : List Piece) (depth : ℕ) (here : Place) (opened : List Place) → are_plain depth ps ≡ true → length opened ≡ depth → AreAccepted here opened ps
are_accepted [] depth here opened plain e = tt
are_accepted (opening ∷ ps) depth here opened plain e =
    let h = and_parts (nat_lt depth max_depth) (are_plain (suc depth) ps) plain in
    let shallow = ltb-true depth max_depth h.0 in
    ((λ code r. omega (arith, r.0, e, shallow)), are_accepted ps (suc depth) (after_piece here opening) (here ∷ opened) h.1 (ap suc e))
are_accepted (closing ∷ ps) depth here opened plain e =
    let h = and_parts (nat_lt 0 depth) (are_plain (depth - 1) ps) plain in
    let inside = ltb-true 0 depth h.0 in
    let fewer : length (drop 1 opened) ≡ depth - 1 = omega (arith, length-drop 1 opened, e) in
    ((λ code r. let none_open = ap length r.0 in omega (arith, none_open, e, inside)), are_accepted ps (depth - 1) (after_piece here closing) (drop 1 opened) h.1 fewer)
are_accepted (blank b ∷ ps) depth here opened plain e =
    ((λ code r. r), are_accepted ps depth (after_piece here (blank b)) opened (and_parts (is_blank b) (are_plain depth ps) plain).1 e)
are_accepted (token t ∷ ps) depth here opened plain e =
    let h = and_parts (is_word t && not (begins_with_word ps)) (are_plain depth ps) plain in
    (not_refused opened t (and_parts (is_word t) (not (begins_with_word ps)) h.0).0, are_accepted ps depth (after_piece here (token t)) opened h.1 e)
are_accepted (comment t ∷ ps) depth here opened plain e = cc
are_accepted (quoted t ∷ ps) depth here opened plain e = cc
