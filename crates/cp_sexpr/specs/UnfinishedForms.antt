-- How the program builds the forms of a text, piece by piece: words of its own steps, which no public contract cites.
use Rattle.std.specs.Prelude.{◌≡◌, ℕ, ◌&&◌, List, [], ◌∷◌, Bool, false, nat_le, if◌then◌else◌}
use Rattle.cp_base.specs.declared.place.Place.{Place}
use Rattle.cp_base.specs.declared.place.Code.TheVariants.{Unclosed}
use Rattle.cp_base.specs.declared.place.Refusal.{Refusal}
use Rattle.cp_sexpr.specs.Syntax.{Form, symbol, string, number, list, Forms, none, more, append}
use Rattle.cp_sexpr.specs.Pieces.{Piece, blank, comment, opening, closing, quoted, token, after_piece}
use Rattle.cp_sexpr.specs.Reading.{refusal}
use Rattle.cp_sexpr.specs.Written.{value, IsRefusedPiece}
use Rattle.cp_sexpr.specs.View.{views}
use Rattle.cp_sexpr.specs.declared.error.OrMemory.{OrMemory}
use Rattle.cp_sexpr.specs.declared.error.OrMemory.TheVariants.{Refused, Memory}
use Rattle.cp_sexpr.specs.declared.builder.OpenList.{OpenList}
use Rattle.cp_sexpr.specs.declared.builder.Builder.{Builder}

-- a list that is not closed yet: its place, and the forms before it in the list around it
pub record Unfinished : Type 0 where
  pub place : Place
  pub before : Forms

-- the lists that are not closed yet, the innermost first, and the forms of the innermost
pub record Building : Type 0 where
  pub lists : List Unfinished
  pub items : Forms

abbrev pub nothing_yet : Building
nothing_yet = record { lists = []; items = none }

abbrev pub with_item : Building → Form → Building
with_item s f = record { lists = s.lists; items = append s.items (more f none) }

abbrev pub with_list_open : Place → Building → Building
with_list_open at s = record { lists = record { place = at; before = s.items } ∷ s.lists; items = none }

-- the innermost list is closed, and is a form of the list around it
abbrev pub with_list_closed : List Unfinished → Forms → Building
with_list_closed [] items = record { lists = []; items = items }
with_list_closed (l ∷ ls) items = record { lists = ls; items = append l.before (more (list l.place items) none) }

abbrev pub begins_with_digit : List ℕ → Bool
begins_with_digit [] = false
begins_with_digit (b ∷ bs) = nat_le 48 b && nat_le b 57

-- the form that a token stands for
abbrev pub token_form : Place → List ℕ → Form
token_form at t = if begins_with_digit t then number at (value t) else symbol at t

-- what a piece at this place makes of what was built before it
abbrev pub with_piece : Place → Building → Piece → Building
with_piece at s (blank b) = s
with_piece at s (comment t) = s
with_piece at s opening = with_list_open at s
with_piece at s closing = with_list_closed s.lists s.items
with_piece at s (quoted t) = with_item s (string at t)
with_piece at s (token t) = with_item s (token_form at t)

-- what these pieces make of it
abbrev pub with_pieces : Place → Building → List Piece → Building
with_pieces at s [] = s
with_pieces at s (p ∷ ps) = with_pieces (after_piece at p) (with_piece at s p) ps

-- the places of lists that are not closed yet
abbrev pub places_of_unclosed : List Unfinished → List Place
places_of_unclosed [] = []
places_of_unclosed (l ∷ ls) = l.place ∷ places_of_unclosed ls

-- what a builder of the program has built: it holds the innermost list last
abbrev pub unfinished_onto : List Unfinished → List OpenList → List Unfinished
unfinished_onto onto [] = onto
unfinished_onto onto (l ∷ ls) = unfinished_onto (record { place = l.place; before = views l.before.items } ∷ onto) ls

abbrev pub building_of : Builder → Building
building_of b = record { lists = unfinished_onto [] b.lists.items; items = views b.items.items }

-- the places of the lists that a builder has not closed yet
abbrev pub opened_by : Builder → List Place
opened_by b = places_of_unclosed (building_of b).lists

-- the error is that the piece is refused at its place, or memory ran out
abbrev pub RefusesPiece : Place → List Place → Piece → OrMemory Refusal → Type 0
RefusesPiece at opened p (Refused r) = IsRefusedPiece opened p r.code × (r ≡ refusal at r.code)
RefusesPiece at opened p Memory = Unit {0}

-- the error is that a list is not closed, at the place of the innermost
abbrev pub RefusesEnd : List Unfinished → OrMemory Refusal → Type 0
RefusesEnd lists (Refused r) = (innermost : Unfinished) × (outer : List Unfinished) × (lists ≡ innermost ∷ outer) × (r ≡ refusal innermost.place Unclosed)
RefusesEnd lists Memory = ⊥
