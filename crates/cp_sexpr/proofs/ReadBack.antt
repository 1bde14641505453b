-- The spelling of a form is read back as that form.
use Rattle.std.proofs.Common.{◌≡◌, ℕ, ◌+◌, ◌%◌, ◌^◌, ◌<◌, ◌≤◌, List, [], ◌∷◌, ◌++◌, length, drop, refl, sym, ap, ap₂, ◌∙◌, subst, arith, append_assoc, append-nil, decimal, lit<, inl, inr}
use Rattle.std.specs.List.{AllByRecursion}
use Rattle.std.proofs.lemmas.Fmt.{decimal_is_IsNumeral, decimal_by_steps, length-decimal-le, decimal_nonempty}
use Rattle.cp_base.specs.declared.place.Place.{Place}
use Rattle.cp_sexpr.specs.Syntax.{Form, symbol, string, number, list, Forms, none, more, append}
use Rattle.cp_sexpr.specs.Pieces.{Piece, blank, opening, closing, quoted, token, BeginsWithout, IsCut, IsTokenByte, IsWhiteSpace, space, line_feed, quote, open_parenthesis, close_parenthesis, start, after_piece, after_pieces}
use Rattle.cp_sexpr.specs.Written.{IsDigit, IsNumber, value, Writes, nothing, skip_blank, a_string, a_symbol, a_number, opened_after, AreAccepted, IsWritten, max_depth}
use Rattle.cp_sexpr.specs.Spelling.{spelling, first_spelling, next_spelling, top_gap, first_top_spelling, next_top_spelling, top_text}
use Rattle.cp_sexpr.specs.ReadBack.{unplaced, all_unplaced, IsSpellable, AreSpellable, depth, depth_of, top_spellings, ReadsAs}
use Rattle.cp_sexpr.proofs.Stacks.{append-none, append-append}
use Rattle.cp_sexpr.proofs.Fronts.{IsCut-append, IsCut-push, AreAccepted-append, AreAccepted-push, after_pieces-append, opened_after-append}
use Rattle.cp_sexpr.proofs.Grammar.{WritesFirst, first_list}

-- ---- numbers

digits_more : (ds : List ℕ) (d : ℕ) → AllByRecursion IsDigit ds → IsDigit d → AllByRecursion IsDigit (ds ++ d ∷ [])
digits_more [] d all h = (h, tt)
digits_more (b ∷ ds) d all h = (all.0, digits_more ds d all.1 h)

digits_of_decimal : (n : ℕ) → n < 2 ^ 64 → AllByRecursion IsDigit (decimal n)
digits_of_decimal n h = decimal_by_steps (λ _ ds. AllByRecursion IsDigit ds) (λ k l. ((omega arith, omega arith), tt)) (λ k ds l all. digits_more ds (48 + k % 10) all (omega arith, omega arith)) n h

number_of_decimal : (n : ℕ) → n < 10 ^ 9 → IsNumber (decimal n) × (value (decimal n) ≡ n)
number_of_decimal n h =
    let small : n < 2 ^ 64 = omega arith in
    ((decimal_nonempty n small, length-decimal-le 9 n (lit< tt) h small, digits_of_decimal n small), (decimal_is_IsNumeral n small).1)

-- ---- a text that pieces spell, wherever it stands

-- From this place on and with these lists open, pieces spell the text, none is refused, none leaves a list open, and they write forms that are these but for their places.
record Spells (at : Place) (opened : List Place) (text : List ℕ) (fs : Forms) : Type 0 where
  pieces : List Piece
  written : Forms
  cut : (rest : List ℕ) → BeginsWithout IsTokenByte rest → IsCut (text ++ rest) pieces rest
  accepted : AreAccepted at opened pieces
  closed : opened_after at opened pieces ≡ opened
  writes : WritesFirst at pieces written
  same : all_unplaced written ≡ fs

spells_nothing : (at : Place) (opened : List Place) → Spells at opened [] none
spells_nothing at opened = record { pieces = []; written = none; cut = λ rest h. refl; accepted = tt; closed = refl; writes = λ ps fs w. w; same = refl }

-- white space in front
behind_blank : (at : Place) (opened : List Place) (b : ℕ) (s : List ℕ) (fs : Forms) → IsWhiteSpace b → Spells (after_piece at (blank b)) opened s fs → Spells at opened (b ∷ s) fs
behind_blank at opened b s fs w a = record {
  pieces = blank b ∷ a.pieces;
  written = a.written;
  cut = λ rest h. (s ++ rest, record { piece = w; spelled = refl; whole = tt }, a.cut rest h);
  accepted = ((λ code r. r), a.accepted);
  closed = a.closed;
  writes = λ ps gs v. skip_blank (a.writes ps gs v);
  same = a.same;
}

all_unplaced-append : (fs gs : Forms) → all_unplaced (append fs gs) ≡ append (all_unplaced fs) (all_unplaced gs)
all_unplaced-append none gs = refl
all_unplaced-append (more f fs) gs = ap (more (unplaced f)) (all_unplaced-append fs gs)

not_closed : (at : Place) (opened o : List Place) → o ≡ at ∷ opened → o ≡ [] → ⊥
not_closed at opened o e f = let c = sym e ∙ f in cc

all_token : (t : List ℕ) → AllByRecursion IsDigit t → AllByRecursion IsTokenByte t
all_token [] h = tt
all_token (b ∷ t) h = ((omega arith, omega arith, (λ e. omega (arith, e)), (λ e. omega (arith, e)), (λ e. omega (arith, e)), (λ e. omega (arith, e))), all_token t h.1)

composed : (at : Place) (opened : List Place) (s t : List ℕ) (fs gs : Forms) (a : Spells at opened s fs) → Spells (after_pieces at a.pieces) opened t gs
    → ((rest : List ℕ) → BeginsWithout IsTokenByte rest → BeginsWithout IsTokenByte (t ++ rest)) → Spells at opened (s ++ t) (append fs gs)
composed at opened s t fs gs a b apart = record {
  pieces = a.pieces ++ b.pieces;
  written = append a.written b.written;
  cut = λ rest h. subst (λ u. IsCut u (a.pieces ++ b.pieces) rest) (sym (append_assoc s t rest)) (IsCut-append a.pieces (s ++ (t ++ rest)) (t ++ rest) b.pieces rest (a.cut (t ++ rest) (apart rest h)) (b.cut rest h));
  accepted = AreAccepted-append at opened a.pieces b.pieces a.accepted (subst (λ o. AreAccepted (after_pieces at a.pieces) o b.pieces) (sym a.closed) b.accepted);
  closed = opened_after-append at opened a.pieces b.pieces ∙ ap (λ o. opened_after (after_pieces at a.pieces) o b.pieces) a.closed ∙ b.closed;
  writes = λ ps hs w.
      let later = b.writes ps hs (subst (λ q. Writes q ps hs) (after_pieces-append at a.pieces b.pieces) w) in
      subst (λ qs. Writes at qs (append (append a.written b.written) hs)) (sym (append_assoc a.pieces b.pieces ps))
      (subst (λ xs. Writes at (a.pieces ++ (b.pieces ++ ps)) xs) (sym (append-append a.written b.written hs)) (a.writes (b.pieces ++ ps) (append b.written hs) later));
  same = all_unplaced-append a.written b.written ∙ ap₂ append a.same b.same;
}

-- ---- forms

symbol_spells : (at : Place) (opened : List Place) (t : List ℕ) (p : Place) → IsSpellable (symbol p t) → Spells at opened t (more (symbol start t) none)
symbol_spells at opened t p s = record {
  pieces = token t ∷ [];
  written = more (symbol at t) none;
  cut = λ rest h. (rest, record { piece = s.0; spelled = refl; whole = h }, refl);
  accepted = ((λ code r. s.1 r.0), tt);
  closed = refl;
  writes = λ ps fs w. a_symbol s.1 w;
  same = refl;
}

string_spells : (at : Place) (opened : List Place) (t : List ℕ) (p : Place) → IsSpellable (string p t) → Spells at opened (quote ∷ (t ++ quote ∷ [])) (more (string start t) none)
string_spells at opened t p s = record {
  pieces = quoted t ∷ [];
  written = more (string at t) none;
  cut = λ rest h. (rest, record { piece = s; spelled = refl; whole = tt }, refl);
  accepted = ((λ code r. r), tt);
  closed = refl;
  writes = λ ps fs w. a_string w;
  same = refl;
}

number_spells : (at : Place) (opened : List Place) (n : ℕ) → n < 10 ^ 9 → Spells at opened (decimal n) (more (number start n) none)
number_spells at opened n h =
    let d = number_of_decimal n h in
    record {
      pieces = token (decimal n) ∷ [];
      written = more (number at (value (decimal n))) none;
      cut = λ rest apart. (rest, record { piece = (d.0.0, all_token (decimal n) d.0.2); spelled = refl; whole = apart }, refl);
      accepted = ((λ code r. r.1 d.0), tt);
      closed = refl;
      writes = λ ps fs w. a_number d.0 w;
      same = ap (λ k. more (number start k) none) d.1;
    }

list_spells : (at : Place) (opened : List Place) (s : List ℕ) (fs : Forms) → length opened < max_depth → Spells (after_piece at opening) (at ∷ opened) s fs
    → Spells at opened (open_parenthesis ∷ (s ++ close_parenthesis ∷ [])) (more (list start fs) none)
list_spells at opened s fs shallow inside =
    let inner = after_piece at opening in
    let items = subst (λ qs. Writes inner qs inside.written) (append-nil inside.pieces) (subst (λ xs. Writes inner (inside.pieces ++ []) xs) (append-none inside.written) (inside.writes [] none nothing)) in
    record {
      pieces = opening ∷ (inside.pieces ++ closing ∷ []);
      written = more (list at inside.written) none;
      cut = λ rest h. (
        (s ++ close_parenthesis ∷ []) ++ rest,
        record { piece = tt; spelled = refl; whole = tt },
        subst (λ u. IsCut u (inside.pieces ++ closing ∷ []) rest) (sym (append_assoc s (close_parenthesis ∷ []) rest))
            (IsCut-push inside.pieces (s ++ (close_parenthesis ∷ rest)) (close_parenthesis ∷ rest) closing rest (inside.cut (close_parenthesis ∷ rest) (λ k. k.3 refl)) (record { piece = tt; spelled = refl; whole = tt })),
      );
      accepted = ((λ code r. absurd (omega (arith, r.0, shallow))), AreAccepted-push inner (at ∷ opened) inside.pieces closing inside.accepted (λ code r. not_closed at opened (opened_after inner (at ∷ opened) inside.pieces) inside.closed r.0));
      closed = opened_after-append inner (at ∷ opened) inside.pieces (closing ∷ []) ∙ ap (drop 1) inside.closed;
      writes = first_list at inside.pieces inside.written items;
      same = ap (λ xs. more (list start xs) none) inside.same;
    }

-- what stands behind a form ends it
pub next_apart : (fs : Forms) (rest : List ℕ) → BeginsWithout IsTokenByte rest → BeginsWithout IsTokenByte (next_spelling fs ++ rest)
next_apart none rest h = h
next_apart (more f fs) rest h = λ k. omega (arith, k.0)

mutual
  form_spells : (f : Form) (at : Place) (opened : List Place) → IsSpellable f → length opened + depth f ≤ max_depth → Spells at opened (spelling f) (more (unplaced f) none)
  form_spells (symbol p t) at opened s d = symbol_spells at opened t p s
  form_spells (string p t) at opened s d = string_spells at opened t p s
  form_spells (number p n) at opened s d = number_spells at opened n s
  form_spells (list p fs) at opened s d = list_spells at opened (first_spelling fs) (all_unplaced fs) (omega (arith, d)) (first_spells fs (after_piece at opening) (at ∷ opened) s (omega (arith, d)))

  first_spells : (fs : Forms) (at : Place) (opened : List Place) → AreSpellable fs → length opened + depth_of fs ≤ max_depth → Spells at opened (first_spelling fs) (all_unplaced fs)
  first_spells none at opened s d = spells_nothing at opened
  first_spells (more f fs) at opened s d =
      let a = form_spells f at opened s.0 (omega (arith, d)) in
      composed at opened (spelling f) (next_spelling fs) (more (unplaced f) none) (all_unplaced fs) a (next_spells fs (after_pieces at a.pieces) opened s.1 (omega (arith, d))) (next_apart fs)

  next_spells : (fs : Forms) (at : Place) (opened : List Place) → AreSpellable fs → length opened + depth_of fs ≤ max_depth → Spells at opened (next_spelling fs) (all_unplaced fs)
  next_spells none at opened s d = spells_nothing at opened
  next_spells (more f fs) at opened s d =
      let b = after_piece at (blank space) in
      let a = form_spells f b opened s.0 (omega (arith, d)) in
      let item = composed b opened (spelling f) (next_spelling fs) (more (unplaced f) none) (all_unplaced fs) a (next_spells fs (after_pieces b a.pieces) opened s.1 (omega (arith, d))) (next_apart fs) in
      behind_blank at opened space (spelling f ++ next_spelling fs) (more (unplaced f) (all_unplaced fs)) (inl refl) item

-- ---- top forms

pub next_top_apart : (fs : Forms) (rest : List ℕ) → BeginsWithout IsTokenByte rest → BeginsWithout IsTokenByte (next_top_spelling fs ++ rest)
next_top_apart none rest h = h
next_top_apart (more (symbol p t) fs) rest h = λ k. omega (arith, k.0)
next_top_apart (more (string p t) fs) rest h = λ k. omega (arith, k.0)
next_top_apart (more (number p n) fs) rest h = λ k. omega (arith, k.0)
next_top_apart (more (list p gs) fs) rest h = λ k. omega (arith, k.0)

-- the place behind what stands before an item
behind_gap : Place → Form → Place
behind_gap at (symbol p t) = after_piece at (blank space)
behind_gap at (string p t) = after_piece at (blank space)
behind_gap at (number p n) = after_piece at (blank space)
behind_gap at (list p fs) = after_piece (after_piece (after_piece at (blank line_feed)) (blank space)) (blank space)

with_gap : (f : Form) (at : Place) (opened : List Place) (s : List ℕ) (fs : Forms) → Spells (behind_gap at f) opened s fs → Spells at opened (top_gap f ++ s) fs
unfolding behind_gap
with_gap (symbol p t) at opened s fs a = behind_blank at opened space s fs (inl refl) a
with_gap (string p t) at opened s fs a = behind_blank at opened space s fs (inl refl) a
with_gap (number p n) at opened s fs a = behind_blank at opened space s fs (inl refl) a
with_gap (list p gs) at opened s fs a =
    let b = after_piece at (blank line_feed) in
    behind_blank at opened line_feed (space ∷ space ∷ s) fs (inr (inr (inl refl)))
    (behind_blank b opened space (space ∷ s) fs (inl refl) (behind_blank (after_piece b (blank space)) opened space s fs (inl refl) a))

next_top_spells : (fs : Forms) (at : Place) (opened : List Place) → AreSpellable fs → length opened + depth_of fs ≤ max_depth → Spells at opened (next_top_spelling fs) (all_unplaced fs)
next_top_spells none at opened s d = spells_nothing at opened
next_top_spells (more f fs) at opened s d =
    let b = behind_gap at f in
    let a = form_spells f b opened s.0 (omega (arith, d)) in
    let item = composed b opened (spelling f) (next_top_spelling fs) (more (unplaced f) none) (all_unplaced fs) a (next_top_spells fs (after_pieces b a.pieces) opened s.1 (omega (arith, d))) (next_top_apart fs) in
    with_gap f at opened (spelling f ++ next_top_spelling fs) (more (unplaced f) (all_unplaced fs)) item

first_top_spells : (fs : Forms) (at : Place) (opened : List Place) → AreSpellable fs → length opened + depth_of fs ≤ max_depth → Spells at opened (first_top_spelling fs) (all_unplaced fs)
first_top_spells none at opened s d = spells_nothing at opened
first_top_spells (more f fs) at opened s d =
    let a = form_spells f at opened s.0 (omega (arith, d)) in
    composed at opened (spelling f) (next_top_spelling fs) (more (unplaced f) none) (all_unplaced fs) a (next_top_spells fs (after_pieces at a.pieces) opened s.1 (omega (arith, d))) (next_top_apart fs)

top_text_spells : (f : Form) (at : Place) → IsSpellable f → depth f ≤ max_depth → Spells at [] (top_text f) (more (unplaced f) none)
top_text_spells (symbol p t) at s d = symbol_spells at [] t p s
top_text_spells (string p t) at s d = string_spells at [] t p s
top_text_spells (number p n) at s d = number_spells at [] n s
top_text_spells (list p fs) at s d = list_spells at [] (first_top_spelling fs) (all_unplaced fs) (omega arith) (first_top_spells fs (after_piece at opening) (at ∷ []) s (omega (arith, d)))

pub line_end_apart : (fs : Forms) (rest : List ℕ) → BeginsWithout IsTokenByte rest → BeginsWithout IsTokenByte ((line_feed ∷ top_spellings fs) ++ rest)
line_end_apart fs rest h = λ k. omega (arith, k.0)

top_spells : (fs : Forms) (at : Place) → AreSpellable fs → depth_of fs ≤ max_depth → Spells at [] (top_spellings fs) (all_unplaced fs)
top_spells none at s d = spells_nothing at []
top_spells (more f fs) at s d =
    let a = top_text_spells f at s.0 (omega (arith, d)) in
    let b = after_pieces at a.pieces in
    let later = behind_blank b [] line_feed (top_spellings fs) (all_unplaced fs) (inr (inr (inl refl))) (top_spells fs (after_piece b (blank line_feed)) s.1 (omega (arith, d))) in
    let all = composed at [] (top_text f) (line_feed ∷ top_spellings fs) (more (unplaced f) none) (all_unplaced fs) a later (line_end_apart fs) in
    subst (λ t. Spells at [] t (more (unplaced f) (all_unplaced fs))) (sym (append_assoc (top_text f) (line_feed ∷ []) (top_spellings fs))) all

-- ---- what is read

read_back : (text : List ℕ) (fs : Forms) → Spells start [] text (all_unplaced fs) → ReadsAs text fs
read_back text fs a =
    let whole : IsWritten text a.written = record {
      pieces = a.pieces;
      cut = subst (λ t. IsCut t a.pieces []) (append-nil text) (a.cut [] tt);
      accepted = a.accepted;
      closed = a.closed;
      writes = subst (λ qs. Writes start qs a.written) (append-nil a.pieces) (subst (λ xs. Writes start (a.pieces ++ []) xs) (append-none a.written) (a.writes [] none nothing));
    } in
    (a.written, whole, a.same)

pub form_read_back : (f : Form) → IsSpellable f → depth f ≤ max_depth → ReadsAs (spelling f) (more f none)
form_read_back f s d = read_back (spelling f) (more f none) (form_spells f start [] s (omega (arith, d)))

pub top_forms_read_back : (fs : Forms) → AreSpellable fs → depth_of fs ≤ max_depth → ReadsAs (top_spellings fs) fs
top_forms_read_back fs s d = read_back (top_spellings fs) fs (top_spells fs start s d)
