-- Pieces one after another: each fold over pieces, at one piece more.
use Rattle.std.proofs.Common.{◌≡◌, ℕ, ◌+◌, ◌-◌, ◌<◌, ◌≤◌, List, [], ◌∷◌, ◌++◌, length, refl, sym, ap, ◌∙◌, subst, arith, length-append, ⊎_elim}
use Rattle.std.proofs.lemmas.Bool.{cases_lt}
use Rattle.cp_base.specs.declared.place.Place.{Place}
use Rattle.cp_base.specs.declared.place.Code.TheVariants.{TooDeep}
use Rattle.cp_sexpr.specs.Pieces.{Piece, blank, comment, opening, closing, quoted, token, spelling, IsPiece, BeginsWith, IsCut, after_byte, place_after, after_piece, after_pieces}
use Rattle.cp_sexpr.specs.Written.{opened_behind, opened_after, IsAcceptedPiece, AreAccepted, max_depth}

-- What is cut into pieces, and what is left into more, is cut into all of them.
pub IsCut-append : (ps : List Piece) (text middle : List ℕ) (qs : List Piece) (rest : List ℕ) → IsCut text ps middle → IsCut middle qs rest → IsCut text (ps ++ qs) rest
IsCut-append [] text middle qs rest c d = subst (λ t. IsCut t qs rest) (sym c) d
IsCut-append (p ∷ ps) text middle qs rest c d = (c.0, c.1, IsCut-append ps c.0 middle qs rest c.2 d)

pub IsCut-push : (ps : List Piece) (text rest : List ℕ) (p : Piece) (after : List ℕ) → IsCut text ps rest → BeginsWith rest p after → IsCut text (ps ++ p ∷ []) after
IsCut-push ps text rest p after c b = IsCut-append ps text rest (p ∷ []) after c (after, b, refl)

pub after_pieces-append : (at : Place) (ps qs : List Piece) → after_pieces at (ps ++ qs) ≡ after_pieces (after_pieces at ps) qs
after_pieces-append at [] qs = refl
after_pieces-append at (p ∷ ps) qs = after_pieces-append (after_piece at p) ps qs

pub opened_after-append : (at : Place) (opened : List Place) (ps qs : List Piece) → opened_after at opened (ps ++ qs) ≡ opened_after (after_pieces at ps) (opened_after at opened ps) qs
opened_after-append at opened [] qs = refl
opened_after-append at opened (p ∷ ps) qs = opened_after-append (after_piece at p) (opened_behind at opened p) ps qs

-- Pieces are accepted where the first are, and the rest behind them.
pub AreAccepted-append : (at : Place) (opened : List Place) (ps qs : List Piece) → AreAccepted at opened ps → AreAccepted (after_pieces at ps) (opened_after at opened ps) qs → AreAccepted at opened (ps ++ qs)
AreAccepted-append at opened [] qs a b = b
AreAccepted-append at opened (p ∷ ps) qs a b = (a.0, AreAccepted-append (after_piece at p) (opened_behind at opened p) ps qs a.1 b)

pub AreAccepted-push : (at : Place) (opened : List Place) (ps : List Piece) (p : Piece) → AreAccepted at opened ps → IsAcceptedPiece (opened_after at opened ps) p → AreAccepted at opened (ps ++ p ∷ [])
AreAccepted-push at opened ps p a h = AreAccepted-append at opened ps (p ∷ []) a (h, tt)

pub first_accepted : (at : Place) (opened : List Place) (ps qs : List Piece) → AreAccepted at opened (ps ++ qs) → AreAccepted at opened ps
first_accepted at opened [] qs h = tt
first_accepted at opened (p ∷ ps) qs h = (h.0, first_accepted (after_piece at p) (opened_behind at opened p) ps qs h.1)

pub last_accepted : (at : Place) (opened : List Place) (ps qs : List Piece) → AreAccepted at opened (ps ++ qs) → AreAccepted (after_pieces at ps) (opened_after at opened ps) qs
last_accepted at opened [] qs h = h
last_accepted at opened (p ∷ ps) qs h = last_accepted (after_piece at p) (opened_behind at opened p) ps qs h.1

-- Where one more list may be opened, fewer are open than at the most.
pub shallow : (opened : List Place) → IsAcceptedPiece opened opening → length opened < max_depth
shallow opened a = ⊎_elim (λ h. h) (λ h. absurd (a TooDeep (h, refl))) (cases_lt (length opened) max_depth)

-- ---- lengths and places

pub length-spelling : (p : Piece) → IsPiece p → 0 < length (spelling p)
length-spelling (blank b) h = omega arith
length-spelling (comment t) h = omega arith
length-spelling opening h = omega arith
length-spelling closing h = omega arith
length-spelling (quoted t) h = omega arith
length-spelling (token t) h = h.0

pub shorter : (text : List ℕ) (p : Piece) (rest : List ℕ) → BeginsWith text p rest → length rest < length text
shorter text p rest b =
    let e = ap length b.spelled ∙ length-append (spelling p) rest in
    let n = length-spelling p b.piece in
    omega arith

after_byte-line : (at : Place) (b : ℕ) → (after_byte at b).line ≤ at.line + 1
after_byte-line at b = grind arith

after_byte-col : (at : Place) (b : ℕ) → (after_byte at b).col ≤ at.col + 1
after_byte-col at b = grind arith

-- A coordinate of places that one byte moves by at most one is moved by pieces by at most as much as they are long.
module _ (of : Place → ℕ) (by_one : (at : Place) (b : ℕ) → of (after_byte at b) ≤ of at + 1) where
  after_bytes : (at : Place) (t : List ℕ) → of (place_after at t) ≤ of at + length t
  after_bytes at [] = omega arith
  after_bytes at (b ∷ t) = omega (arith, after_bytes (after_byte at b) t, by_one at b)

  after_cut : (ps : List Piece) (at : Place) (text rest : List ℕ) → IsCut text ps rest → of (after_pieces at ps) + length rest ≤ of at + length text
  after_cut [] at text rest c = let e = ap length c in omega arith
  after_cut (p ∷ ps) at text rest c =
      let e = ap length c.1.spelled ∙ length-append (spelling p) c.0 in
      omega (arith, after_cut ps (after_piece at p) c.0 rest c.2, after_bytes at (spelling p), e)

pub after_pieces-line : (ps : List Piece) (at : Place) (text rest : List ℕ) → IsCut text ps rest → (after_pieces at ps).line + length rest ≤ at.line + length text
after_pieces-line ps at text rest c = after_cut (λ at. at.line) after_byte-line ps at text rest c

pub after_pieces-col : (ps : List Piece) (at : Place) (text rest : List ℕ) → IsCut text ps rest → (after_pieces at ps).col + length rest ≤ at.col + length text
after_pieces-col ps at text rest c = after_cut (λ at. at.col) after_byte-col ps at text rest c
