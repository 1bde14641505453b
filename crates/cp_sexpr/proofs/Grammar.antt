-- What is built from pieces is what they write, and nothing else.
use Rattle.std.proofs.Common.{◌≡◌, ℕ, List, [], ◌∷◌, ◌++◌, length, refl, sym, ap, ◌∙◌, subst, arith, append_assoc, Bool, true, false, cond, ◌⊎◌, inl, inr, ⊎_elim}
use Rattle.std.proofs.lemmas.Bool.{cases_lt}
use Rattle.std.specs.List.{AllByRecursion}
use Rattle.cp_base.specs.declared.place.Place.{Place}
use Rattle.cp_base.specs.declared.place.Code.{Code}
use Rattle.cp_base.specs.declared.place.Code.TheVariants.{BadNumber, Unbalanced}
use Rattle.cp_sexpr.specs.Syntax.{symbol, string, number, list, Forms, none, more, append}
use Rattle.cp_sexpr.specs.Pieces.{Piece, blank, comment, opening, closing, quoted, token, after_piece, after_pieces}
use Rattle.cp_sexpr.specs.Written.{IsDigit, BeginsWithDigit, IsNumber, value, Writes, nothing, skip_blank, skip_comment, a_string, a_symbol, a_number, a_list, IsRefusedPiece, AreAccepted}
use Rattle.cp_sexpr.specs.UnfinishedForms.{Unfinished, Building, begins_with_digit, token_form, with_piece, with_pieces, places_of_unclosed}
use Rattle.cp_sexpr.proofs.Stacks.{append-none, append-append, built}
use Rattle.cp_sexpr.proofs.Fronts.{after_pieces-append}

-- ---- tokens

pub digit_first : (t : List ℕ) → begins_with_digit t ≡ true → BeginsWithDigit t
digit_first [] e = cc
digit_first (b ∷ t) e = grind arith

pub no_digit_first : (t : List ℕ) → begins_with_digit t ≡ false → BeginsWithDigit t → ⊥
no_digit_first [] e h = h
no_digit_first (b ∷ t) e h = grind arith

pub is_digit_first : (t : List ℕ) → BeginsWithDigit t → begins_with_digit t ≡ true
is_digit_first [] h = absurd h
is_digit_first (b ∷ t) h = grind arith

pub is_no_digit_first : (t : List ℕ) → (BeginsWithDigit t → ⊥) → begins_with_digit t ≡ false
is_no_digit_first [] h = refl
is_no_digit_first (b ∷ t) h = grind arith

pub IsNumber-first : (t : List ℕ) → IsNumber t → BeginsWithDigit t
IsNumber-first [] n = absurd (omega arith)
IsNumber-first (b ∷ t) n = n.2.0

pub digit_or_not : (b : ℕ) → IsDigit b ⊎ (IsDigit b → ⊥)
digit_or_not b = grind arith

digits_or_not : (t : List ℕ) → AllByRecursion IsDigit t ⊎ (AllByRecursion IsDigit t → ⊥)
digits_or_not [] = inl tt
digits_or_not (b ∷ t) = ⊎_elim (λ d. ⊎_elim (λ ds. inl (d, ds)) (λ no. inr (λ h. no h.1)) (digits_or_not t)) (λ no. inr (λ h. no h.0)) (digit_or_not b)

pub number_or_not : (t : List ℕ) → IsNumber t ⊎ (IsNumber t → ⊥)
number_or_not t =
    ⊎_elim (λ some. ⊎_elim (λ many. inr (λ n. absurd (omega arith)))
    (λ few. ⊎_elim (λ ds. inl (some, few, ds)) (λ other. inr (λ n. other n.2)) (digits_or_not t)) (cases_lt 9 (length t)))
    (λ empty. inr (λ n. absurd (omega arith))) (cases_lt 0 (length t))

-- a token that begins with a digit and is not refused is a number
pub accepted_number : (opened : List Place) (t : List ℕ) → ((code : Code) → IsRefusedPiece opened (token t) code → ⊥) → BeginsWithDigit t → IsNumber t
accepted_number opened t a d = ⊎_elim (λ n. n) (λ no. absurd (a BadNumber (d, no, refl))) (number_or_not t)

-- ---- from what is built to what is written

-- these pieces write the first forms of a text that goes on
abbrev pub WritesFirst : Place → List Piece → Forms → Type 0
WritesFirst at xs front = (ps : List Piece) (fs : Forms) → Writes (after_pieces at xs) ps fs → Writes at (xs ++ ps) (append front fs)

-- With these lists open and these forms before, what the pieces write closes the lists and makes all the forms.
abbrev pub Completes : Place → List Piece → List Unfinished → Forms → Forms → Type 0
Completes at ps [] before all = (fs : Forms) × Writes at ps fs × (all ≡ append before fs)
Completes at ps (l ∷ ls) before all = (inside : List Piece) × (ys : List Piece) × (items : Forms) × (ps ≡ inside ++ closing ∷ ys) × Writes at inside items
    × Completes (after_piece (after_pieces at inside) closing) ys ls (append l.before (more (list l.place (append before items)) none)) all

pub Completes-first : (ls : List Unfinished) (at : Place) (xs ps : List Piece) (front before all : Forms) → WritesFirst at xs front → Completes (after_pieces at xs) ps ls (append before front) all
    → Completes at (xs ++ ps) ls before all
Completes-first [] at xs ps front before all w c = (append front c.0, w ps c.0 c.1, c.2 ∙ append-append before front c.0)
Completes-first (l ∷ ls) at xs ps front before all w c =
    let inside = c.0 in
    let ys = c.1 in
    let items = c.2 in
    let place : after_pieces at (xs ++ inside) ≡ after_pieces (after_pieces at xs) inside = after_pieces-append at xs inside in
    let forms : append (append before front) items ≡ append before (append front items) = append-append before front items in
    let rest = subst (λ fs. Completes (after_piece (after_pieces (after_pieces at xs) inside) closing) ys ls (append l.before (more (list l.place fs) none)) all) forms c.5 in (
      xs ++ inside,
      ys,
      append front items,
      ap (λ qs. xs ++ qs) c.3 ∙ sym (append_assoc xs inside (closing ∷ ys)),
      w inside items c.4,
      subst (λ q. Completes (after_piece q closing) ys ls (append l.before (more (list l.place (append before (append front items))) none)) all) (sym place) rest,
    )

first_blank : (at : Place) (b : ℕ) → WritesFirst at (blank b ∷ []) none
first_blank at b ps fs w = skip_blank w

first_comment : (at : Place) (t : List ℕ) → WritesFirst at (comment t ∷ []) none
first_comment at t ps fs w = skip_comment w

first_string : (at : Place) (t : List ℕ) → WritesFirst at (quoted t ∷ []) (more (string at t) none)
first_string at t ps fs w = a_string w

first_word_by : (at : Place) (t : List ℕ) (d : Bool) → begins_with_digit t ≡ d → (BeginsWithDigit t → IsNumber t) → (ps : List Piece) (fs : Forms) → Writes (after_piece at (token t)) ps fs
    → Writes at (token t ∷ ps) (more (cond d (number at (value t)) (symbol at t)) fs)
first_word_by at t true e n ps fs w = a_number (n (digit_first t e)) w
first_word_by at t false e n ps fs w = a_symbol (no_digit_first t e) w

first_word : (at : Place) (opened : List Place) (t : List ℕ) → ((code : Code) → IsRefusedPiece opened (token t) code → ⊥) → WritesFirst at (token t ∷ []) (more (token_form at t) none)
first_word at opened t a ps fs w = first_word_by at t (begins_with_digit t) refl (accepted_number opened t a) ps fs w

-- a whole list
pub first_list : (at : Place) (inside : List Piece) (items : Forms) → Writes (after_piece at opening) inside items → WritesFirst at (opening ∷ (inside ++ closing ∷ [])) (more (list at items) none)
first_list at inside items w ps fs v =
    let place : after_pieces at (opening ∷ (inside ++ closing ∷ [])) ≡ after_piece (after_pieces (after_piece at opening) inside) closing = after_pieces-append (after_piece at opening) inside (closing ∷ []) in
    let all = a_list w (subst (λ q. Writes q ps fs) place v) in
    subst (λ qs. Writes at (opening ∷ qs) (more (list at items) fs)) (sym (append_assoc inside (closing ∷ []) ps)) all

Completes-list : (ls : List Unfinished) (at : Place) (ps : List Piece) (before all : Forms) → Completes (after_piece at opening) ps (record { place = at; before = before } ∷ ls) none all
    → Completes at (opening ∷ ps) ls before all
Completes-list ls at ps before all c =
    let inside = c.0 in
    let ys = c.1 in
    let items = c.2 in
    let place : after_pieces at (opening ∷ (inside ++ closing ∷ [])) ≡ after_piece (after_pieces (after_piece at opening) inside) closing = after_pieces-append (after_piece at opening) inside (closing ∷ []) in
    let rest = subst (λ q. Completes q ys ls (append before (more (list at items) none)) all) (sym place) c.5 in
    let whole = Completes-first ls at (opening ∷ (inside ++ closing ∷ [])) ys (more (list at items) none) before all (first_list at inside items c.4) rest in
    subst (λ qs. Completes at (opening ∷ qs) ls before all) (append_assoc inside (closing ∷ []) ys ∙ sym c.3) whole

-- What is built from pieces that are not refused, with no list open at their end, is what they write.
pub built_is_written : (ps : List Piece) (at : Place) (ls : List Unfinished) (before : Forms) → AreAccepted at (places_of_unclosed ls) ps → (with_pieces at (built ls before) ps).lists ≡ []
    → Completes at ps ls before (with_pieces at (built ls before) ps).items
built_is_written [] at [] before a e = (none, nothing, sym (append-none before))
built_is_written [] at (l ∷ ls) before a e = cc
built_is_written (blank b ∷ ps) at ls before a e =
    Completes-first ls at (blank b ∷ []) ps none before _ (first_blank at b)
    (subst (λ fs. Completes (after_piece at (blank b)) ps ls fs (with_pieces (after_piece at (blank b)) (built ls before) ps).items) (sym (append-none before)) (built_is_written ps (after_piece at (blank b)) ls before a.1 e))
built_is_written (comment t ∷ ps) at ls before a e =
    Completes-first ls at (comment t ∷ []) ps none before _ (first_comment at t)
    (subst (λ fs. Completes (after_piece at (comment t)) ps ls fs (with_pieces (after_piece at (comment t)) (built ls before) ps).items) (sym (append-none before)) (built_is_written ps (after_piece at (comment t)) ls before a.1 e))
built_is_written (opening ∷ ps) at ls before a e =
    Completes-list ls at ps before _ (built_is_written ps (after_piece at opening) (record { place = at; before = before } ∷ ls) none a.1 e)
built_is_written (closing ∷ ps) at [] before a e = absurd (a.0 Unbalanced (refl, refl))
built_is_written (closing ∷ ps) at (l ∷ ls) before a e =
    let rest = built_is_written ps (after_piece at closing) ls (append l.before (more (list l.place before) none)) a.1 e in
    let all = (with_pieces (after_piece at closing) (built ls (append l.before (more (list l.place before) none))) ps).items in
    ([], ps, none, refl, nothing, subst (λ fs. Completes (after_piece at closing) ps ls (append l.before (more (list l.place fs) none)) all) (sym (append-none before)) rest)
built_is_written (quoted t ∷ ps) at ls before a e =
    Completes-first ls at (quoted t ∷ []) ps (more (string at t) none) before _ (first_string at t)
    (built_is_written ps (after_piece at (quoted t)) ls (append before (more (string at t) none)) a.1 e)
built_is_written (token t ∷ ps) at ls before a e =
    Completes-first ls at (token t ∷ []) ps (more (token_form at t) none) before _ (first_word at (places_of_unclosed ls) t a.0)
    (built_is_written ps (after_piece at (token t)) ls (append before (more (token_form at t) none)) a.1 e)

-- ---- from what is written to what is built

pub with_pieces-append : (at : Place) (s : Building) (ps qs : List Piece) → with_pieces at s (ps ++ qs) ≡ with_pieces (after_pieces at ps) (with_pieces at s ps) qs
with_pieces-append at s [] qs = refl
with_pieces-append at s (p ∷ ps) qs = with_pieces-append (after_piece at p) (with_piece at s p) ps qs

word-number : (at : Place) (t : List ℕ) → IsNumber t → token_form at t ≡ number at (value t)
word-number at t n = ap (λ d. cond d (number at (value t)) (symbol at t)) (is_digit_first t (IsNumber-first t n))

word-symbol : (at : Place) (t : List ℕ) → (BeginsWithDigit t → ⊥) → token_form at t ≡ symbol at t
word-symbol at t other = ap (λ d. cond d (number at (value t)) (symbol at t)) (is_no_digit_first t other)

pub written_is_built : {at : Place} {ps : List Piece} {fs : Forms} → Writes at ps fs → (ls : List Unfinished) (before : Forms) → with_pieces at (built ls before) ps ≡ built ls (append before fs)
written_is_built nothing ls before = ap (built ls) (sym (append-none before))
written_is_built (skip_blank w) ls before = written_is_built w ls before
written_is_built (skip_comment w) ls before = written_is_built w ls before
written_is_built (a_string {at} {t} {ps} {fs} w) ls before =
    written_is_built w ls (append before (more (string at t) none)) ∙ ap (built ls) (append-append before (more (string at t) none) fs)
written_is_built (a_symbol {at} {t} {ps} {fs} other w) ls before =
    ap (λ f. with_pieces (after_piece at (token t)) (built ls (append before (more f none))) ps) (word-symbol at t other)
    ∙ written_is_built w ls (append before (more (symbol at t) none)) ∙ ap (built ls) (append-append before (more (symbol at t) none) fs)
written_is_built (a_number {at} {t} {ps} {fs} n w) ls before =
    ap (λ f. with_pieces (after_piece at (token t)) (built ls (append before (more f none))) ps) (word-number at t n)
    ∙ written_is_built w ls (append before (more (number at (value t)) none)) ∙ ap (built ls) (append-append before (more (number at (value t)) none) fs)
written_is_built (a_list {at} {inside} {ps} {items} {fs} w v) ls before =
    let opened : Unfinished = record { place = at; before = before } in
    with_pieces-append (after_piece at opening) (built (opened ∷ ls) none) inside (closing ∷ ps)
    ∙ ap (λ s. with_pieces (after_pieces (after_piece at opening) inside) s (closing ∷ ps)) (written_is_built w (opened ∷ ls) none)
    ∙ written_is_built v ls (append before (more (list at items) none))
    ∙ ap (built ls) (append-append before (more (list at items) none) fs)
