-- A text has a reading.
use Rattle.std.proofs.Common.{◌≡◌, ℕ, zero, suc, ◌<◌, List, [], ◌∷◌, ◌++◌, length, refl, sym, ap, ◌∙◌, subst, arith, append_assoc, Result, Ok, Err, ◌⊎◌, inl, inr, ⊎_elim}
use Rattle.std.proofs.lemmas.Bool.{cases_eq, cases_lt}
use Rattle.std.specs.List.{AllByRecursion}
use Rattle.cp_base.specs.declared.place.Place.{Place}
use Rattle.cp_base.specs.declared.place.Code.{Code}
use Rattle.cp_base.specs.declared.place.Code.TheVariants.{BadByte, OpenString, Unbalanced, TooDeep, BadNumber, Unclosed}
use Rattle.cp_base.specs.declared.place.Refusal.{Refusal}
use Rattle.cp_sexpr.specs.Syntax.{Forms}
use Rattle.cp_sexpr.specs.Pieces.{Piece, blank, comment, opening, closing, quoted, token, BeginsWith, BeginsWithout, IsWhiteSpace, IsTokenByte, IsStringByte, IsCommentByte, quote, semicolon, open_parenthesis, close_parenthesis, line_feed, space, start, place_after, after_piece}
use Rattle.cp_sexpr.specs.Reading.{IsRefused, by_piece, by_byte, by_open_string, by_string_byte, by_end, IsReading, refusal}
use Rattle.cp_sexpr.specs.Written.{BeginsWithDigit, IsRefusedPiece, IsAcceptedPiece, max_depth}
use Rattle.cp_sexpr.specs.UnfinishedForms.{Unfinished, Building, nothing_yet, with_piece, places_of_unclosed}
use Rattle.cp_sexpr.proofs.Fronts.{shorter}
use Rattle.cp_sexpr.proofs.Grammar.{digit_or_not, number_or_not}
use Rattle.cp_sexpr.proofs.Readings.{ReadUpTo, read_nothing, read_piece, read_all, read_refused}
use Rattle.cp_sexpr.proofs.Runs.{EndsLine-without, no_white_space, not_visible}

-- ---- the longest run of a kind

record Run (P : ℕ → Type 0) (text : List ℕ) : Type 0 where
  front : List ℕ
  rest : List ℕ
  parts : text ≡ front ++ rest
  each : AllByRecursion P front
  stops : BeginsWithout P rest

run_of : (P : ℕ → Type 0) → ((b : ℕ) → P b ⊎ (P b → ⊥)) → (text : List ℕ) → Run P text
run_of P decide [] = record { front = []; rest = []; parts = refl; each = tt; stops = tt }
run_of P decide (b ∷ text) =
    ⊎_elim (λ h. let r = run_of P decide text in record { front = b ∷ r.front; rest = r.rest; parts = ap (λ t. b ∷ t) r.parts; each = (h, r.each); stops = r.stops })
    (λ h. record { front = []; rest = b ∷ text; parts = refl; each = tt; stops = h }) (decide b)

token_byte_or_not : (b : ℕ) → IsTokenByte b ⊎ (IsTokenByte b → ⊥)
token_byte_or_not b = grind arith

string_byte_or_not : (b : ℕ) → IsStringByte b ⊎ (IsStringByte b → ⊥)
string_byte_or_not b = grind arith

comment_byte_or_not : (b : ℕ) → IsCommentByte b ⊎ (IsCommentByte b → ⊥)
comment_byte_or_not b = ⊎_elim (λ e. inr (λ h. h e)) (λ h. inl h) (cases_eq b line_feed)

-- ---- what comes next

-- the text ends, or begins with a piece, or is refused whatever lists are open
data Next (at : Place) (text : List ℕ) : Type 0 where
  ends : text ≡ [] → Next at text
  goes_on : (p : Piece) (rest : List ℕ) → BeginsWith text p rest → Next at text
  stops_here : (r : Refusal) → ((opened : List Place) → IsRefused at opened text r) → Next at text

next_string_from : (at : Place) (text front : List ℕ) → AllByRecursion IsStringByte front → (rest : List ℕ) → text ≡ quote ∷ (front ++ rest) → BeginsWithout IsStringByte rest → Next at text
next_string_from at text front all [] e stops = stops_here (refusal at OpenString) (λ opened. by_open_string front [] e all tt refl)
next_string_from at text front all (b ∷ rest) e stops =
    ⊎_elim (λ q. goes_on (quoted front) rest (record { piece = all; spelled = e ∙ ap (λ c. quote ∷ (front ++ c ∷ rest)) q ∙ ap (λ t. quote ∷ t) (sym (append_assoc front (quote ∷ []) rest)); whole = tt }))
    (λ no_quote. ⊎_elim (λ l. stops_here (refusal at OpenString) (λ opened. by_open_string front (b ∷ rest) e all l refl))
    (λ no_line_feed. stops_here (refusal (place_after at (quote ∷ front)) BadByte) (λ opened. by_string_byte front b rest e all stops no_quote no_line_feed refl)) (cases_eq b line_feed)) (cases_eq b quote)

next_string : (at : Place) (text : List ℕ) → Next at (quote ∷ text)
next_string at text = let r = run_of IsStringByte string_byte_or_not text in next_string_from at (quote ∷ text) r.front r.each r.rest (ap (λ t. quote ∷ t) r.parts) r.stops

next_comment : (at : Place) (text : List ℕ) → Next at (semicolon ∷ text)
next_comment at text =
    let r = run_of IsCommentByte comment_byte_or_not text in
    goes_on (comment r.front) r.rest (record { piece = r.each; spelled = ap (λ t. semicolon ∷ t) r.parts; whole = EndsLine-without r.rest r.stops })

next_token : (at : Place) (b : ℕ) (text : List ℕ) → IsTokenByte b → Next at (b ∷ text)
next_token at b text h =
    let r = run_of IsTokenByte token_byte_or_not text in
    goes_on (token (b ∷ r.front)) r.rest (record { piece = (omega arith, (h, r.each)); spelled = ap (λ t. b ∷ t) r.parts; whole = r.stops })

next_blank : (at : Place) (b : ℕ) (text : List ℕ) → IsWhiteSpace b → Next at (b ∷ text)
next_blank at b text h = goes_on (blank b) text (record { piece = h; spelled = refl; whole = tt })

white_or_not : (b : ℕ) → IsWhiteSpace b ⊎ (IsWhiteSpace b → ⊥)
white_or_not b =
    ⊎_elim (λ e. inl (inl e)) (λ s. ⊎_elim (λ e. inl (inr (inl e))) (λ t. ⊎_elim (λ e. inl (inr (inr (inl e)))) (λ l. ⊎_elim (λ e. inl (inr (inr (inr e)))) (λ r. inr (no_white_space b s t l r))
    (cases_eq b 13)) (cases_eq b line_feed)) (cases_eq b 9)) (cases_eq b space)

next_at : (at : Place) (b : ℕ) (t : List ℕ) (c : ℕ) → b ≡ c → Next at (c ∷ t) → Next at (b ∷ t)
next_at at b t c e n = subst (λ x. Next at (x ∷ t)) (sym e) n

next_of : (at : Place) (text : List ℕ) → Next at text
next_of at [] = ends refl
next_of at (b ∷ t) =
    ⊎_elim (next_blank at b t) (λ white. ⊎_elim (next_token at b t) (λ in_token.
    ⊎_elim (λ e. next_at at b t open_parenthesis e (goes_on opening t (record { piece = tt; spelled = refl; whole = tt })))
    (λ o. ⊎_elim (λ e. next_at at b t close_parenthesis e (goes_on closing t (record { piece = tt; spelled = refl; whole = tt })))
    (λ c. ⊎_elim (λ e. next_at at b t quote e (next_string at t))
    (λ q. ⊎_elim (λ e. next_at at b t semicolon e (next_comment at t))
    (λ s. stops_here (refusal at BadByte) (λ opened. by_byte b t refl white (not_visible b in_token o c q s) refl))
    (cases_eq b semicolon)) (cases_eq b quote)) (cases_eq b close_parenthesis)) (cases_eq b open_parenthesis)) (token_byte_or_not b)) (white_or_not b)

-- ---- whether the next piece is refused

digit_first_or_not : (t : List ℕ) → BeginsWithDigit t ⊎ (BeginsWithDigit t → ⊥)
digit_first_or_not [] = inr (λ h. h)
digit_first_or_not (b ∷ t) = digit_or_not b

accepted_or_not : (opened : List Place) (p : Piece) → IsAcceptedPiece opened p ⊎ ((code : Code) × IsRefusedPiece opened p code)
accepted_or_not opened (blank b) = inl (λ code r. r)
accepted_or_not opened (comment t) = inl (λ code r. r)
accepted_or_not opened opening = ⊎_elim (λ h. inl (λ code r. omega (arith, h, r.0))) (λ h. inr (TooDeep, (h, refl))) (cases_lt (length opened) max_depth)
accepted_or_not [] closing = inr (Unbalanced, (refl, refl))
accepted_or_not (q ∷ opened) closing = inl (λ code r. let e = r.0 in cc)
accepted_or_not opened (quoted t) = inl (λ code r. r)
accepted_or_not opened (token t) =
    ⊎_elim (λ d. ⊎_elim (λ n. inl (λ code r. r.1 n)) (λ n. inr (BadNumber, (d, n, refl))) (number_or_not t)) (λ d. inl (λ code r. d r.0)) (digit_first_or_not t)

-- ---- the whole text

end_reading : (text rest : List ℕ) (at : Place) (items : Forms) (ls : List Unfinished) → ReadUpTo text rest at (record { lists = ls; items = items }) → rest ≡ [] → (a : Result Forms Refusal) × IsReading text a
end_reading text rest at items [] r e = (Ok items, read_all text rest at (record { lists = []; items = items }) r e refl)
end_reading text rest at items (l ∷ ls) r e =
    (Err (refusal l.place Unclosed), read_refused text rest at (record { lists = l ∷ ls; items = items }) (refusal l.place Unclosed) r (by_end l.place (places_of_unclosed ls) e refl refl))

-- the measure is at least how much of the text is left
read_on : (fuel : ℕ) (text rest : List ℕ) (at : Place) (s : Building) → length rest < fuel → ReadUpTo text rest at s → Next at rest → (a : Result Forms Refusal) × IsReading text a
read_on zero text rest at s less r n = absurd (omega (arith, less))
read_on (suc fuel) text rest at s less r (ends e) = end_reading text rest at s.items s.lists r e
read_on (suc fuel) text rest at s less r (stops_here f refused) = (Err f, read_refused text rest at s f r (refused (places_of_unclosed s.lists)))
read_on (suc fuel) text rest at s less r (goes_on p after b) =
    ⊎_elim (λ a. let less_left = shorter rest p after b in
    read_on fuel text after (after_piece at p) (with_piece at s p) (omega (arith, less, less_left)) (read_piece text rest at s p after (after_piece at p) (with_piece at s p) r b a refl refl) (next_of (after_piece at p) after))
    (λ f. (Err (refusal at f.0), read_refused text rest at s (refusal at f.0) r (by_piece p after f.0 b f.1 refl))) (accepted_or_not (places_of_unclosed s.lists) p)

pub reading_of : (text : List ℕ) → (a : Result Forms Refusal) × IsReading text a
reading_of text = read_on (suc (length text)) text text start nothing_yet (omega arith) (read_nothing text) (next_of start text)
