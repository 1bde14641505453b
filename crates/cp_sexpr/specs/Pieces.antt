-- How a text is cut into pieces, and where each piece stands.
use Rattle.std.specs.Prelude.{◌≡◌, ◌≢◌, ℕ, ◌+◌, ◌<◌, ◌≤◌, ◌⊎◌, ◌==◌, List, [], ◌∷◌, ◌++◌, length, if◌then◌else◌}
use Rattle.std.specs.List.{AllByRecursion}
use Rattle.cp_base.specs.declared.place.Place.{Place}

-- ---- bytes

abbrev pub line_feed : ℕ
line_feed = 10

abbrev pub space : ℕ
space = 32

-- a space, a tab, a line feed or a carriage return
abbrev pub IsWhiteSpace : ℕ → Type 0
IsWhiteSpace b = (b ≡ space) ⊎ ((b ≡ 9) ⊎ ((b ≡ line_feed) ⊎ (b ≡ 13)))

-- any byte but a line feed
abbrev pub IsCommentByte : ℕ → Type 0
IsCommentByte b = b ≢ line_feed

abbrev pub quote : ℕ
quote = 34

abbrev pub backslash : ℕ
backslash = 92

-- a visible byte or a space, but no quote or backslash
abbrev pub IsStringByte : ℕ → Type 0
IsStringByte b = (32 ≤ b) × (b ≤ 126) × (b ≢ quote) × (b ≢ backslash)

-- a byte that is printed with ink
abbrev pub IsVisible : ℕ → Type 0
IsVisible b = (33 ≤ b) × (b ≤ 126)

abbrev pub open_parenthesis : ℕ
open_parenthesis = 40

abbrev pub close_parenthesis : ℕ
close_parenthesis = 41

abbrev pub semicolon : ℕ
semicolon = 59

-- a visible byte that is no parenthesis, quote or semicolon
abbrev pub IsTokenByte : ℕ → Type 0
IsTokenByte b = (33 ≤ b) × (b ≤ 126) × (b ≢ open_parenthesis) × (b ≢ close_parenthesis) × (b ≢ quote) × (b ≢ semicolon)

-- ---- pieces

pub data Piece : Type 0 where
  blank : ℕ → Piece
  comment : List ℕ → Piece
  opening : Piece
  closing : Piece
  quoted : List ℕ → Piece
  token : List ℕ → Piece

-- the bytes of a piece in the text
abbrev pub spelling : Piece → List ℕ
spelling (blank b) = b ∷ []
spelling (comment t) = semicolon ∷ t
spelling opening = open_parenthesis ∷ []
spelling closing = close_parenthesis ∷ []
spelling (quoted t) = quote ∷ (t ++ quote ∷ [])
spelling (token t) = t

-- one byte or more, each of a token
abbrev pub IsToken : List ℕ → Type 0
IsToken t = (0 < length t) × AllByRecursion IsTokenByte t

-- the bytes that a piece holds are of its kind
abbrev pub IsPiece : Piece → Type 0
IsPiece (blank b) = IsWhiteSpace b
IsPiece (comment t) = AllByRecursion IsCommentByte t
IsPiece opening = Unit {0}
IsPiece closing = Unit {0}
IsPiece (quoted t) = AllByRecursion IsStringByte t
IsPiece (token t) = IsToken t

-- the line ends here: with a line feed, or with the text
abbrev pub EndsLine : List ℕ → Type 0
EndsLine [] = Unit {0}
EndsLine (b ∷ bs) = b ≡ line_feed

-- the text does not begin with a byte of this kind
abbrev pub BeginsWithout : (ℕ → Type 0) → List ℕ → Type 0
BeginsWithout P [] = Unit {0}
BeginsWithout P (b ∷ bs) = P b → ⊥

-- the piece goes on up to this rest: a token as long as there are bytes of a token, a comment to the end of its line
abbrev pub GoesUpTo : List ℕ → Piece → Type 0
GoesUpTo rest (blank b) = Unit {0}
GoesUpTo rest (comment t) = EndsLine rest
GoesUpTo rest opening = Unit {0}
GoesUpTo rest closing = Unit {0}
GoesUpTo rest (quoted t) = Unit {0}
GoesUpTo rest (token t) = BeginsWithout IsTokenByte rest

-- the text begins with this piece, as long as it can be, and the rest follows
pub record BeginsWith (text : List ℕ) (p : Piece) (rest : List ℕ) : Type 0 where
  pub piece : IsPiece p
  pub spelled : text ≡ spelling p ++ rest
  pub whole : GoesUpTo rest p

-- the text is cut into these pieces, and then the rest follows
abbrev pub IsCut : List ℕ → List Piece → List ℕ → Type 0
IsCut text [] rest = text ≡ rest
IsCut text (p ∷ ps) rest = (after : List ℕ) × BeginsWith text p after × IsCut after ps rest

-- ---- places

-- the place of the first byte of a text
abbrev pub start : Place
start = record { line = 1; col = 1 }

-- the place behind a byte: a line feed begins the next line, and any other byte is one column
abbrev pub after_byte : Place → ℕ → Place
after_byte at b = if b == line_feed then record { line = at.line + 1; col = 1 } else record { line = at.line; col = at.col + 1 }

-- the place behind these bytes
abbrev pub place_after : Place → List ℕ → Place
place_after at [] = at
place_after at (b ∷ bs) = place_after (after_byte at b) bs

-- the place behind a piece
abbrev pub after_piece : Place → Piece → Place
after_piece at p = place_after at (spelling p)

-- the place behind these pieces
abbrev pub after_pieces : Place → List Piece → Place
after_pieces at [] = at
after_pieces at (p ∷ ps) = after_pieces (after_piece at p) ps
