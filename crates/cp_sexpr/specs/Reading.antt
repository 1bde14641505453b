-- Which forms a text writes, or where and why it is refused.
use Rattle.std.specs.Prelude.{◌≡◌, ◌≢◌, ℕ, List, [], ◌∷◌, ◌++◌, Result, Ok, Err}
use Rattle.std.specs.List.{AllByRecursion}
use Rattle.cp_base.specs.declared.place.Place.{Place}
use Rattle.cp_base.specs.declared.place.Code.{Code}
use Rattle.cp_base.specs.declared.place.Code.TheVariants.{BadByte, OpenString, Unclosed}
use Rattle.cp_base.specs.declared.place.Refusal.{Refusal}
use Rattle.cp_sexpr.specs.declared.error.OrMemory.{OrMemory}
use Rattle.cp_sexpr.specs.declared.error.OrMemory.TheVariants.{Refused, Memory}
use Rattle.cp_sexpr.specs.Syntax.{Forms}
use Rattle.cp_sexpr.specs.Pieces.{Piece, quote, line_feed, IsWhiteSpace, IsVisible, IsStringByte, EndsLine, BeginsWith, IsCut, start, place_after, after_pieces}
use Rattle.cp_sexpr.specs.Written.{opened_after, IsRefusedPiece, AreAccepted, IsWritten}

-- ---- refusals

-- the refusal at this place for this reason
abbrev pub refusal : Place → Code → Refusal
refusal at c = record { place = at; code = c }

-- With these lists open, the text from this place on is refused so, by its first piece or for want of one.
pub data IsRefused (at : Place) (opened : List Place) (text : List ℕ) (r : Refusal) : Type 0 where
  -- the next piece is refused, at its first byte
  by_piece : (p : Piece) (rest : List ℕ) (code : Code) → BeginsWith text p rest → IsRefusedPiece opened p code → r ≡ refusal at code → IsRefused at opened text r
  -- the next byte begins no piece
  by_byte : (b : ℕ) (rest : List ℕ) → text ≡ b ∷ rest → (IsWhiteSpace b → ⊥) → (IsVisible b → ⊥) → r ≡ refusal at BadByte → IsRefused at opened text r
  -- a string stands open at the end of its line
  by_open_string : (t rest : List ℕ) → text ≡ quote ∷ (t ++ rest) → AllByRecursion IsStringByte t → EndsLine rest → r ≡ refusal at OpenString → IsRefused at opened text r
  -- a byte that no string holds comes before the closing quote
  by_string_byte : (t : List ℕ) (b : ℕ) (rest : List ℕ) → text ≡ quote ∷ (t ++ b ∷ rest) → AllByRecursion IsStringByte t → (IsStringByte b → ⊥) → b ≢ quote → b ≢ line_feed
      → r ≡ refusal (place_after at (quote ∷ t)) BadByte → IsRefused at opened text r
  -- the text ends with a list open, and its place is that of the innermost
  by_end : (innermost : Place) (outer : List Place) → text ≡ [] → opened ≡ innermost ∷ outer → r ≡ refusal innermost Unclosed → IsRefused at opened text r

-- ---- readings

-- The text begins with pieces, none of them refused, and what follows them is refused so: the first fault from the left.
pub record IsFaulty (text : List ℕ) (r : Refusal) : Type 0 where
  pub pieces : List Piece
  pub rest : List ℕ
  pub cut : IsCut text pieces rest
  pub accepted : AreAccepted start [] pieces
  pub refused : IsRefused (after_pieces start pieces) (opened_after start [] pieces) rest r

-- the text's forms, or its first fault
abbrev pub IsReading : List ℕ → Result Forms Refusal → Type 0
IsReading text (Ok fs) = IsWritten text fs
IsReading text (Err r) = IsFaulty text r

-- the error is the text's first fault, or memory ran out
abbrev pub IsErrorOf : List ℕ → OrMemory Refusal → Type 0
IsErrorOf text (Refused r) = IsReading text (Err r)
IsErrorOf text Memory = Unit {0}
