-- How the program cuts a text: words of its own steps, which no public contract cites.
use Rattle.std.specs.Prelude.{ℕ, ◌<◌, ◌≤◌, List, length, slice_index}
use Rattle.cp_sexpr.specs.Pieces as pieces
use Rattle.cp_sexpr.specs.declared.piece.Kind.{Kind}
use Rattle.cp_sexpr.specs.declared.piece.Kind.TheVariants as kinds
use Rattle.cp_sexpr.specs.declared.piece.Piece.{Piece}
use Rattle.cp_sexpr.specs.declared.piece.Piece.TheVariants.{Blank, Comment, Opening, Closing, Quoted, Token}

-- the bytes of a kind
abbrev pub IsOfKind : Kind → ℕ → Type 0
IsOfKind kinds.Token = pieces.IsTokenByte
IsOfKind kinds.String = pieces.IsStringByte
IsOfKind kinds.Comment = pieces.IsCommentByte

-- the first n bytes are of this kind, and the next is not
pub record IsLongestPrefix (P : ℕ → Type 0) (bytes : List ℕ) (n : ℕ) : Type 0 where
  pub within : n ≤ length bytes
  pub each : (k : ℕ) → k < n → P (slice_index bytes k)
  pub stops : n < length bytes → P (slice_index bytes n) → ⊥

-- the piece that a `Piece` of the program stands for
abbrev pub piece_of : Piece → pieces.Piece
piece_of (Blank b) = pieces.blank b
piece_of (Comment t) = pieces.comment t.now
piece_of Opening = pieces.opening
piece_of Closing = pieces.closing
piece_of (Quoted t) = pieces.quoted t.now
piece_of (Token t) = pieces.token t.now
