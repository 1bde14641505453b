-- Which forms a text writes.
use Rattle.std.specs.Prelude.{◌≡◌, ℕ, ◌<◌, ◌≤◌, List, [], ◌∷◌, ◌++◌, length, drop}
use Rattle.std.specs.List.{AllByRecursion}
use Rattle.std.specs.Str.Parse.{digits_value}
use Rattle.cp_base.specs.declared.place.Place.{Place}
use Rattle.cp_base.specs.declared.place.Code.{Code}
use Rattle.cp_base.specs.declared.place.Code.TheVariants.{Unbalanced, TooDeep, BadNumber}
use Rattle.cp_sexpr.specs.Syntax.{symbol, string, number, list, Forms, none, more}
use Rattle.cp_sexpr.specs.Pieces.{Piece, blank, comment, opening, closing, quoted, token, IsCut, start, after_piece, after_pieces}

-- ---- tokens

abbrev pub IsDigit : ℕ → Type 0
IsDigit b = (48 ≤ b) × (b ≤ 57)

abbrev pub BeginsWithDigit : List ℕ → Type 0
BeginsWithDigit [] = ⊥
BeginsWithDigit (b ∷ bs) = IsDigit b

-- one to nine digits, of which the first may be 0
abbrev pub IsNumber : List ℕ → Type 0
IsNumber t = (0 < length t) × (length t ≤ 9) × AllByRecursion IsDigit t

-- the number that the digits write in base ten
abbrev pub value : List ℕ → ℕ
value t = digits_value 10 t

-- ---- forms

-- The pieces from this place on write these forms: the grammar, by cases on the first piece.
pub data Writes : Place → List Piece → Forms → Type 0 where
  -- no pieces write no forms
  nothing : {at : Place} → Writes at [] none
  -- white space and comments write nothing
  skip_blank : {at : Place} {b : ℕ} {ps : List Piece} {fs : Forms} → Writes (after_piece at (blank b)) ps fs → Writes at (blank b ∷ ps) fs
  skip_comment : {at : Place} {t : List ℕ} {ps : List Piece} {fs : Forms} → Writes (after_piece at (comment t)) ps fs → Writes at (comment t ∷ ps) fs
  -- what stands in quotes is a string
  a_string : {at : Place} {t : List ℕ} {ps : List Piece} {fs : Forms} → Writes (after_piece at (quoted t)) ps fs → Writes at (quoted t ∷ ps) (more (string at t) fs)
  -- a token that begins with no digit is a symbol
  a_symbol : {at : Place} {t : List ℕ} {ps : List Piece} {fs : Forms} → (BeginsWithDigit t → ⊥) → Writes (after_piece at (token t)) ps fs → Writes at (token t ∷ ps) (more (symbol at t) fs)
  -- a token of one to nine digits is a number
  a_number : {at : Place} {t : List ℕ} {ps : List Piece} {fs : Forms} → IsNumber t → Writes (after_piece at (token t)) ps fs → Writes at (token t ∷ ps) (more (number at (value t)) fs)
  -- a list stands between parentheses
  a_list : {at : Place} {inside ps : List Piece} {items fs : Forms} → Writes (after_piece at opening) inside items
      → Writes (after_piece (after_pieces (after_piece at opening) inside) closing) ps fs → Writes at (opening ∷ (inside ++ closing ∷ ps)) (more (list at items) fs)

-- ---- open lists

-- the places of the lists that are open behind a piece, the innermost first
abbrev pub opened_behind : Place → List Place → Piece → List Place
opened_behind at opened opening = at ∷ opened
opened_behind at opened closing = drop 1 opened
opened_behind at opened _ = opened

-- the places of the lists that are open behind these pieces, the innermost first
abbrev pub opened_after : Place → List Place → List Piece → List Place
opened_after at opened [] = opened
opened_after at opened (p ∷ ps) = opened_after (after_piece at p) (opened_behind at opened p) ps

-- lists nest no deeper than this
abbrev pub max_depth : ℕ
max_depth = 200

-- ---- pieces that are refused

-- A piece is refused for this reason, with these lists open before it.
abbrev pub IsRefusedPiece : List Place → Piece → Code → Type 0
IsRefusedPiece opened (blank b) code = ⊥
IsRefusedPiece opened (comment t) code = ⊥
IsRefusedPiece opened opening code = (max_depth ≤ length opened) × (code ≡ TooDeep)
IsRefusedPiece opened closing code = (opened ≡ []) × (code ≡ Unbalanced)
IsRefusedPiece opened (quoted t) code = ⊥
IsRefusedPiece opened (token t) code = BeginsWithDigit t × (IsNumber t → ⊥) × (code ≡ BadNumber)

-- no reason refuses the piece
abbrev pub IsAcceptedPiece : List Place → Piece → Type 0
IsAcceptedPiece opened p = (code : Code) → IsRefusedPiece opened p code → ⊥

-- none of these pieces is refused
abbrev pub AreAccepted : Place → List Place → List Piece → Type 0
AreAccepted at opened [] = Unit {0}
AreAccepted at opened (p ∷ ps) = IsAcceptedPiece opened p × AreAccepted (after_piece at p) (opened_behind at opened p) ps

-- The text is pieces, none of them refused, with no list open at its end, that write these forms.
pub record IsWritten (text : List ℕ) (fs : Forms) : Type 0 where
  pub pieces : List Piece
  pub cut : IsCut text pieces []
  pub accepted : AreAccepted start [] pieces
  pub closed : opened_after start [] pieces ≡ []
  pub writes : Writes start pieces fs
