-- The pieces of a text of proper forms, and what follows for the forms where none of these pieces is refused.
use Rattle.std.proofs.Common.{◌≡◌, ℕ, ◌+◌, ◌≤◌, List, [], ◌∷◌, ◌++◌, length, drop, refl, sym, ap, ap₂, ◌∙◌, subst, arith, append_assoc, decimal, inl, inr}
use Rattle.cp_base.specs.declared.place.Place.{Place}
use Rattle.cp_sexpr.specs.Syntax.{Form, symbol, string, number, list, Forms, none, more}
use Rattle.cp_sexpr.specs.Pieces.{Piece, blank, opening, closing, quoted, token, BeginsWithout, IsCut, IsTokenByte, IsWhiteSpace, space, line_feed, quote, open_parenthesis, close_parenthesis, after_piece, after_pieces}
use Rattle.cp_sexpr.specs.Written.{opened_after, AreAccepted, max_depth}
use Rattle.cp_sexpr.specs.Spelling.{spelling, first_spelling, next_spelling, top_gap, first_top_spelling, next_top_spelling, top_text}
use Rattle.cp_sexpr.specs.ReadBack.{depth_of, top_spellings}
use Rattle.cp_sexpr.proofs.Fronts.{IsCut-append, opened_after-append, first_accepted, last_accepted, shallow, shorter}
use Rattle.cp_sexpr.proofs.Grammar.{accepted_number}
use Rattle.cp_sexpr.proofs.Unique.{one_piece}
use Rattle.cp_sexpr.proofs.ReadBack.{next_apart, next_top_apart, line_end_apart}
use Rattle.cp_printable.specs.Proper.{IsProper, AreProper, HaveShortNumbers}
use Rattle.cp_printable.proofs.Numerals.{nine_digits, decimal_is_token, decimal_begins_with_digit}

-- a text is cut into its pieces in one way
pub one_cut : (ps qs : List Piece) (text : List ℕ) → IsCut text ps [] → IsCut text qs [] → ps ≡ qs
one_cut [] [] text c d = refl
one_cut [] (q ∷ qs) text c d = absurd (omega (arith, shorter text q d.0 d.1, ap length c))
one_cut (p ∷ ps) [] text c d = absurd (omega (arith, shorter text p c.0 c.1, ap length d))
one_cut (p ∷ ps) (q ∷ qs) text c d =
    let same = one_piece text p q c.0 d.0 c.1 d.1 in
    let d' : IsCut c.0 qs [] = subst (λ t. IsCut t qs []) (sym same.1) d.2 in
    ap₂ (λ x xs. x ∷ xs) same.0 (one_cut ps qs c.0 c.2 d')

-- ---- a text that is cut so

-- Wherever the text stands it is cut into these pieces, which leave no list open; and where none of them is refused, the forms
-- keep to the bounds.
pub record HasPieces (text : List ℕ) (fs : Forms) : Type 0 where
  pub pieces : List Piece
  pub cut : (rest : List ℕ) → BeginsWithout IsTokenByte rest → IsCut (text ++ rest) pieces rest
  pub closed : (at : Place) (opened : List Place) → opened_after at opened pieces ≡ opened
  pub bounds : (at : Place) (opened : List Place) → length opened ≤ max_depth → AreAccepted at opened pieces → HaveShortNumbers fs × (length opened + depth_of fs ≤ max_depth)

of_nothing : HasPieces [] none
of_nothing = record { pieces = []; cut = λ rest h. refl; closed = λ at opened. refl; bounds = λ at opened d a. (tt, omega arith) }

-- white space in front
behind_blank : (b : ℕ) (s : List ℕ) (fs : Forms) → IsWhiteSpace b → HasPieces s fs → HasPieces (b ∷ s) fs
behind_blank b s fs w h = record {
  pieces = blank b ∷ h.pieces;
  cut = λ rest apart. (s ++ rest, record { piece = w; spelled = refl; whole = tt }, h.cut rest apart);
  closed = λ at opened. h.closed (after_piece at (blank b)) opened;
  bounds = λ at opened d a. h.bounds (after_piece at (blank b)) opened d a.1;
}

-- a form, and forms behind it
composed : (s t : List ℕ) (f : Form) (fs : Forms) → HasPieces s (more f none) → HasPieces t fs → ((rest : List ℕ) → BeginsWithout IsTokenByte rest → BeginsWithout IsTokenByte (t ++ rest))
    → HasPieces (s ++ t) (more f fs)
composed s t f fs h k apart = record {
  pieces = h.pieces ++ k.pieces;
  cut = λ rest ends. subst (λ u. IsCut u (h.pieces ++ k.pieces) rest) (sym (append_assoc s t rest)) (IsCut-append h.pieces (s ++ (t ++ rest)) (t ++ rest) k.pieces rest (h.cut (t ++ rest) (apart rest ends)) (k.cut rest ends));
  closed = λ at opened. opened_after-append at opened h.pieces k.pieces ∙ ap (λ o. opened_after (after_pieces at h.pieces) o k.pieces) (h.closed at opened) ∙ k.closed (after_pieces at h.pieces) opened;
  bounds = λ at opened d a.
      let x = h.bounds at opened d (first_accepted at opened h.pieces k.pieces a) in
      let behind = subst (λ o. AreAccepted (after_pieces at h.pieces) o k.pieces) (h.closed at opened) (last_accepted at opened h.pieces k.pieces a) in
      let y = k.bounds (after_pieces at h.pieces) opened d behind in
      ((x.0.0, y.0), omega (arith, x.1, y.1));
}

-- ---- forms

of_symbol : (t : List ℕ) (p : Place) → IsProper (symbol p t) → HasPieces t (more (symbol p t) none)
of_symbol t p proper = record {
  pieces = token t ∷ [];
  cut = λ rest ends. (rest, record { piece = proper.0; spelled = refl; whole = ends }, refl);
  closed = λ at opened. refl;
  bounds = λ at opened d a. ((tt, tt), omega arith);
}

of_string : (t : List ℕ) (p : Place) → IsProper (string p t) → HasPieces (quote ∷ (t ++ quote ∷ [])) (more (string p t) none)
of_string t p proper = record {
  pieces = quoted t ∷ [];
  cut = λ rest ends. (rest, record { piece = proper; spelled = refl; whole = tt }, refl);
  closed = λ at opened. refl;
  bounds = λ at opened d a. ((tt, tt), omega arith);
}

of_number : (n : ℕ) (p : Place) → HasPieces (decimal n) (more (number p n) none)
of_number n p = record {
  pieces = token (decimal n) ∷ [];
  cut = λ rest ends. (rest, record { piece = decimal_is_token n; spelled = refl; whole = ends }, refl);
  closed = λ at opened. refl;
  bounds = λ at opened d a. ((nine_digits n (accepted_number opened (decimal n) a.0 (decimal_begins_with_digit n)).1, tt), omega arith);
}

of_list : (s : List ℕ) (p : Place) (fs : Forms) → HasPieces s fs → HasPieces (open_parenthesis ∷ (s ++ close_parenthesis ∷ [])) (more (list p fs) none)
of_list s p fs h = record {
  pieces = opening ∷ (h.pieces ++ closing ∷ []);
  cut = λ rest ends. (
    (s ++ close_parenthesis ∷ []) ++ rest,
    record { piece = tt; spelled = refl; whole = tt },
    subst (λ u. IsCut u (h.pieces ++ closing ∷ []) rest) (sym (append_assoc s (close_parenthesis ∷ []) rest))
        (IsCut-append h.pieces (s ++ (close_parenthesis ∷ rest)) (close_parenthesis ∷ rest) (closing ∷ []) rest (h.cut (close_parenthesis ∷ rest) (λ k. k.3 refl)) (rest, record { piece = tt; spelled = refl; whole = tt }, refl)),
  );
  closed = λ at opened. opened_after-append (after_piece at opening) (at ∷ opened) h.pieces (closing ∷ []) ∙ ap (drop 1) (h.closed (after_piece at opening) (at ∷ opened));
  bounds = λ at opened d a.
      let less = shallow opened a.0 in
      let x = h.bounds (after_piece at opening) (at ∷ opened) (omega (arith, less)) (first_accepted (after_piece at opening) (at ∷ opened) h.pieces (closing ∷ []) a.1) in
      ((x.0, tt), omega (arith, x.1));
}

mutual
  of_form : (f : Form) → IsProper f → HasPieces (spelling f) (more f none)
  of_form (symbol p t) proper = of_symbol t p proper
  of_form (string p t) proper = of_string t p proper
  of_form (number p n) proper = of_number n p
  of_form (list p fs) proper = of_list (first_spelling fs) p fs (of_first fs proper)

  of_first : (fs : Forms) → AreProper fs → HasPieces (first_spelling fs) fs
  of_first none proper = of_nothing
  of_first (more f fs) proper = composed (spelling f) (next_spelling fs) f fs (of_form f proper.0) (of_next fs proper.1) (next_apart fs)

  of_next : (fs : Forms) → AreProper fs → HasPieces (next_spelling fs) fs
  of_next none proper = of_nothing
  of_next (more f fs) proper =
      behind_blank space (spelling f ++ next_spelling fs) (more f fs) (inl refl) (composed (spelling f) (next_spelling fs) f fs (of_form f proper.0) (of_next fs proper.1) (next_apart fs))

-- ---- top forms

behind_gap : (f : Form) (s : List ℕ) (fs : Forms) → HasPieces s fs → HasPieces (top_gap f ++ s) fs
behind_gap (symbol p t) s fs h = behind_blank space s fs (inl refl) h
behind_gap (string p t) s fs h = behind_blank space s fs (inl refl) h
behind_gap (number p n) s fs h = behind_blank space s fs (inl refl) h
behind_gap (list p gs) s fs h = behind_blank line_feed (space ∷ space ∷ s) fs (inr (inr (inl refl))) (behind_blank space (space ∷ s) fs (inl refl) (behind_blank space s fs (inl refl) h))

of_next_top : (fs : Forms) → AreProper fs → HasPieces (next_top_spelling fs) fs
of_next_top none proper = of_nothing
of_next_top (more f fs) proper =
    behind_gap f (spelling f ++ next_top_spelling fs) (more f fs) (composed (spelling f) (next_top_spelling fs) f fs (of_form f proper.0) (of_next_top fs proper.1) (next_top_apart fs))

of_first_top : (fs : Forms) → AreProper fs → HasPieces (first_top_spelling fs) fs
of_first_top none proper = of_nothing
of_first_top (more f fs) proper = composed (spelling f) (next_top_spelling fs) f fs (of_form f proper.0) (of_next_top fs proper.1) (next_top_apart fs)

of_top : (f : Form) → IsProper f → HasPieces (top_text f) (more f none)
of_top (symbol p t) proper = of_symbol t p proper
of_top (string p t) proper = of_string t p proper
of_top (number p n) proper = of_number n p
of_top (list p fs) proper = of_list (first_top_spelling fs) p fs (of_first_top fs proper)

pub of_top_forms : (fs : Forms) → AreProper fs → HasPieces (top_spellings fs) fs
of_top_forms none proper = of_nothing
of_top_forms (more f fs) proper =
    let behind = behind_blank line_feed (top_spellings fs) fs (inr (inr (inl refl))) (of_top_forms fs proper.1) in
    let all = composed (top_text f) (line_feed ∷ top_spellings fs) f fs (of_top f proper.0) behind (line_end_apart fs) in
    subst (λ t. HasPieces t (more f fs)) (sym (append_assoc (top_text f) (line_feed ∷ []) (top_spellings fs))) all
