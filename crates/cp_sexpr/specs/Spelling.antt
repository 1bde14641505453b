-- The normal spelling of a form.
use Rattle.std.specs.Prelude.{◌≡◌, ℕ, List, [], ◌∷◌, ◌++◌, decimal}
use Rattle.cp_sexpr.specs.Syntax.{Form, symbol, string, number, list, Forms, none, more}
use Rattle.cp_sexpr.specs.Pieces.{line_feed, space, quote, open_parenthesis, close_parenthesis}

abbrev mutual
  -- A symbol is its bytes, a string is in quotes, a number is in decimal, and a list has one space between its items.
  pub spelling : Form → List ℕ
  spelling (symbol at t) = t
  spelling (string at t) = quote ∷ (t ++ quote ∷ [])
  spelling (number at n) = decimal n
  spelling (list at fs) = open_parenthesis ∷ (first_spelling fs ++ close_parenthesis ∷ [])

  -- the items of a list
  pub first_spelling : Forms → List ℕ
  first_spelling none = []
  first_spelling (more f fs) = spelling f ++ next_spelling fs

  -- the items of a list, behind others
  pub next_spelling : Forms → List ℕ
  next_spelling none = []
  next_spelling (more f fs) = space ∷ (spelling f ++ next_spelling fs)

-- what stands before an item of a top form that is not its first: a new line and two spaces if it is a list
abbrev pub top_gap : Form → List ℕ
top_gap (symbol at t) = space ∷ []
top_gap (string at t) = space ∷ []
top_gap (number at n) = space ∷ []
top_gap (list at fs) = line_feed ∷ space ∷ space ∷ []

-- the items of a top form, behind others
abbrev pub next_top_spelling : Forms → List ℕ
next_top_spelling none = []
next_top_spelling (more f fs) = top_gap f ++ (spelling f ++ next_top_spelling fs)

-- the items of a top form
abbrev pub first_top_spelling : Forms → List ℕ
first_top_spelling none = []
first_top_spelling (more f fs) = spelling f ++ next_top_spelling fs

-- a top form without its line feed
abbrev pub top_text : Form → List ℕ
top_text (symbol at t) = spelling (symbol at t)
top_text (string at t) = spelling (string at t)
top_text (number at n) = spelling (number at n)
top_text (list at fs) = open_parenthesis ∷ (first_top_spelling fs ++ close_parenthesis ∷ [])

-- A top form ends with a line feed.
abbrev pub top_spelling : Form → List ℕ
top_spelling f = top_text f ++ line_feed ∷ []

-- new is old with a front of the text at its end
abbrev pub AppendsFront : List ℕ → List ℕ → List ℕ → Type 0
AppendsFront old new text = (front back : List ℕ) × (text ≡ front ++ back) × (new ≡ old ++ front)
