-- Forms whose symbols and strings are such as the reader gives, whatever their numbers and however deep their lists.
use Rattle.std.specs.Prelude.{ℕ, ◌^◌, ◌<◌, ◌≤◌, List}
use Rattle.std.specs.List.{AllByRecursion}
use Rattle.cp_sexpr.specs.Syntax.{Form, symbol, string, number, list, Forms, none, more}
use Rattle.cp_sexpr.specs.Pieces.{IsToken, IsStringByte}
use Rattle.cp_sexpr.specs.Written.{BeginsWithDigit, max_depth}
use Rattle.cp_sexpr.specs.ReadBack.{depth_of}

-- Bytes that may stand in quotes.
abbrev pub IsStringText : List ℕ → Type 0
IsStringText t = AllByRecursion IsStringByte t

-- A token that begins with no digit.
abbrev pub IsSymbolText : List ℕ → Type 0
IsSymbolText t = IsToken t × (BeginsWithDigit t → ⊥)

abbrev mutual
  -- Its symbols are tokens that begin with no digit, and its strings hold bytes of strings.
  pub IsProper : Form → Type 0
  IsProper (symbol at t) = IsSymbolText t
  IsProper (string at t) = IsStringText t
  IsProper (number at n) = Unit {0}
  IsProper (list at fs) = AreProper fs

  pub AreProper : Forms → Type 0
  AreProper none = Unit {0}
  AreProper (more f fs) = IsProper f × AreProper fs

abbrev mutual
  -- Its numbers have nine digits at most.
  pub HasShortNumbers : Form → Type 0
  HasShortNumbers (symbol at t) = Unit {0}
  HasShortNumbers (string at t) = Unit {0}
  HasShortNumbers (number at n) = n < 10 ^ 9
  HasShortNumbers (list at fs) = HaveShortNumbers fs

  pub HaveShortNumbers : Forms → Type 0
  HaveShortNumbers none = Unit {0}
  HaveShortNumbers (more f fs) = HasShortNumbers f × HaveShortNumbers fs

-- The forms keep to the reader's bounds: numbers have nine digits at most, and no more than 200 lists stand inside each other.
pub record AreWithinBounds (fs : Forms) : Type 0 where
  pub numbers : HaveShortNumbers fs
  pub depth : depth_of fs ≤ max_depth
