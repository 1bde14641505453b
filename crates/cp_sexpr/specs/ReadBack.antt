-- Which forms are read back from their spelling, and how forms are compared whatever their places.
use Rattle.std.specs.Prelude.{◌≡◌, ℕ, ◌+◌, ◌^◌, ◌<◌, max, List, [], ◌++◌, Ok}
use Rattle.std.specs.List.{AllByRecursion}
use Rattle.cp_sexpr.specs.Syntax.{Form, symbol, string, number, list, Forms, none, more}
use Rattle.cp_sexpr.specs.Pieces.{IsToken, IsStringByte, start}
use Rattle.cp_sexpr.specs.Reading.{IsReading}
use Rattle.cp_sexpr.specs.Written.{BeginsWithDigit}
use Rattle.cp_sexpr.specs.Spelling.{top_spelling}

abbrev mutual
  -- the form with one place everywhere
  pub unplaced : Form → Form
  unplaced (symbol at t) = symbol start t
  unplaced (string at t) = string start t
  unplaced (number at n) = number start n
  unplaced (list at fs) = list start (all_unplaced fs)

  -- these forms with one place everywhere
  pub all_unplaced : Forms → Forms
  all_unplaced none = none
  all_unplaced (more f fs) = more (unplaced f) (all_unplaced fs)

abbrev mutual
  -- Its symbols are tokens that begin with no digit, its strings hold bytes of strings, and its numbers have nine digits at most.
  pub IsSpellable : Form → Type 0
  IsSpellable (symbol at t) = IsToken t × (BeginsWithDigit t → ⊥)
  IsSpellable (string at t) = AllByRecursion IsStringByte t
  IsSpellable (number at n) = n < 10 ^ 9
  IsSpellable (list at fs) = AreSpellable fs

  pub AreSpellable : Forms → Type 0
  AreSpellable none = Unit {0}
  AreSpellable (more f fs) = IsSpellable f × AreSpellable fs

abbrev mutual
  -- how many lists are inside each other
  pub depth : Form → ℕ
  depth (symbol at t) = 0
  depth (string at t) = 0
  depth (number at n) = 0
  depth (list at fs) = 1 + depth_of fs

  pub depth_of : Forms → ℕ
  depth_of none = 0
  depth_of (more f fs) = max (depth f) (depth_of fs)

-- top forms, one behind the other
abbrev pub top_spellings : Forms → List ℕ
top_spellings none = []
top_spellings (more f fs) = top_spelling f ++ top_spellings fs

-- the text is read, and gives these forms but for their places
abbrev pub ReadsAs : List ℕ → Forms → Type 0
ReadsAs text fs = (read : Forms) × IsReading text (Ok read) × (all_unplaced read ≡ all_unplaced fs)
