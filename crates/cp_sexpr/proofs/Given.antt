-- What reading gives has a spelling.
use Rattle.std.proofs.Common.{◌≡◌, ℕ, ◌+◌, ◌^◌, ◌<◌, ◌≤◌, List, [], ◌∷◌, ◌++◌, length, drop, refl, ap, ◌∙◌, subst, arith, Ok, lit<}
use Rattle.std.specs.List.{AllByRecursion}
use Rattle.std.specs.Str.Parse.{AllDigits}
use Rattle.std.proofs.Math.Nat.{pow-le-pow_right}
use Rattle.std.proofs.lemmas.Int.Digits.{digits_value-lt}
use Rattle.cp_base.specs.declared.place.Place.{Place}
use Rattle.cp_sexpr.specs.Syntax.{Forms}
use Rattle.cp_sexpr.specs.Pieces.{Piece, opening, closing, IsPiece, IsCut, after_piece, after_pieces}
use Rattle.cp_sexpr.specs.Reading.{IsReading}
use Rattle.cp_sexpr.specs.Written.{IsDigit, IsNumber, value, Writes, nothing, skip_blank, skip_comment, a_string, a_symbol, a_number, a_list, opened_after, AreAccepted, max_depth}
use Rattle.cp_sexpr.specs.ReadBack.{AreSpellable, depth_of}
use Rattle.cp_sexpr.proofs.Fronts.{opened_after-append, first_accepted, last_accepted, shallow}
use Rattle.cp_sexpr.proofs.Numbers.{digit_value-digit}

are_digits : (t : List ℕ) → AllByRecursion IsDigit t → AllDigits 10 t
are_digits [] h = tt
are_digits (b ∷ t) h = let e = digit_value-digit b h.0 in (omega (arith, e, h.0), are_digits t h.1)

value_below : (t : List ℕ) → IsNumber t → value t < 10 ^ 9
value_below t n =
    let v = digits_value-lt 10 t (are_digits t n.2) in
    let few : length t ≤ 9 = n.1 in
    let p : 10 ^ length t ≤ 10 ^ 9 = pow-le-pow_right (lit< tt) few in
    omega (arith, v, p)

are_pieces : (ps : List Piece) (text rest : List ℕ) → IsCut text ps rest → AllByRecursion IsPiece ps
are_pieces [] text rest c = tt
are_pieces (p ∷ ps) text rest c = (c.1.piece, are_pieces ps c.0 rest c.2)

first_pieces : (ps qs : List Piece) → AllByRecursion IsPiece (ps ++ qs) → AllByRecursion IsPiece ps
first_pieces [] qs h = tt
first_pieces (p ∷ ps) qs h = (h.0, first_pieces ps qs h.1)

last_pieces : (ps qs : List Piece) → AllByRecursion IsPiece (ps ++ qs) → AllByRecursion IsPiece qs
last_pieces [] qs h = h
last_pieces (p ∷ ps) qs h = last_pieces ps qs h.1

-- what writes forms leaves no list open
Writes-closed : {at : Place} {ps : List Piece} {fs : Forms} → Writes at ps fs → (opened : List Place) → opened_after at opened ps ≡ opened
Writes-closed nothing opened = refl
Writes-closed (skip_blank w) opened = Writes-closed w opened
Writes-closed (skip_comment w) opened = Writes-closed w opened
Writes-closed (a_string w) opened = Writes-closed w opened
Writes-closed (a_symbol other w) opened = Writes-closed w opened
Writes-closed (a_number n w) opened = Writes-closed w opened
Writes-closed (a_list {at} {inside} {ps} {items} {fs} w v) opened =
    opened_after-append (after_piece at opening) (at ∷ opened) inside (closing ∷ ps)
    ∙ ap (λ o. opened_after (after_piece (after_pieces (after_piece at opening) inside) closing) (drop 1 o) ps) (Writes-closed w (at ∷ opened))
    ∙ Writes-closed v opened

written_is_spellable : {at : Place} {ps : List Piece} {fs : Forms} → Writes at ps fs → (opened : List Place) → AllByRecursion IsPiece ps → AreAccepted at opened ps → length opened ≤ max_depth
    → AreSpellable fs × (length opened + depth_of fs ≤ max_depth)
written_is_spellable nothing opened p a d = (tt, omega arith)
written_is_spellable (skip_blank w) opened p a d = written_is_spellable w opened p.1 a.1 d
written_is_spellable (skip_comment w) opened p a d = written_is_spellable w opened p.1 a.1 d
written_is_spellable (a_string w) opened p a d = let h = written_is_spellable w opened p.1 a.1 d in ((p.0, h.0), omega (arith, h.1))
written_is_spellable (a_symbol other w) opened p a d = let h = written_is_spellable w opened p.1 a.1 d in (((p.0, other), h.0), omega (arith, h.1))
written_is_spellable (a_number {at} {t} n w) opened p a d = let h = written_is_spellable w opened p.1 a.1 d in ((value_below t n, h.0), omega (arith, h.1))
written_is_spellable (a_list {at} {inside} {ps} {items} {fs} w v) opened p a d =
    let inner = after_piece at opening in
    let less = shallow opened a.0 in
    let h = written_is_spellable w (at ∷ opened) (first_pieces inside (closing ∷ ps) p.1) (first_accepted inner (at ∷ opened) inside (closing ∷ ps) a.1) (omega (arith, less)) in
    let behind = last_accepted inner (at ∷ opened) inside (closing ∷ ps) a.1 in
    let later : AreAccepted (after_piece (after_pieces inner inside) closing) opened ps = subst (λ o. AreAccepted (after_piece (after_pieces inner inside) closing) (drop 1 o) ps) (Writes-closed w (at ∷ opened)) behind.1 in
    let k = written_is_spellable v opened (last_pieces inside (closing ∷ ps) p.1).1 later d in
    ((h.0, k.0), omega (arith, h.1, k.1))

pub read_is_spellable : (text : List ℕ) (fs : Forms) → IsReading text (Ok fs) → AreSpellable fs × (depth_of fs ≤ max_depth)
read_is_spellable text fs w =
    let h = written_is_spellable w.writes [] (are_pieces w.pieces text [] w.cut) w.accepted (omega arith) in
    (h.0, omega (arith, h.1))
