-- Places at which forms fit no report, and which of them is the first.
use Rattle.std.specs.Prelude.{◌≡◌, ◌==◌, ◌&&◌, ◌||◌, nat_lt, ℕ, zero, suc, List, [], ◌∷◌, ◌++◌, Bool, true, false}
use Rattle.cp_base.specs.declared.place.Place.{Place}
use Rattle.cp_lists.specs.Lists.{IsIn}
use Rattle.cp_sexpr.specs.Syntax.{Form, symbol, number, list}
use Rattle.cp_language.specs.Faults.{place_of, items_of}

abbrev pub misfit : Place → List Place
misfit at = at ∷ []

-- A misfit where the test fails.
abbrev pub misfit_unless : Bool → Place → List Place
misfit_unless true at = []
misfit_unless false at = misfit at

-- The second, asked only where there is none of the first: of a list as a whole nothing is asked where something in it
-- does not fit.
abbrev pub unless_misfit : List Place → List Place → List Place
unless_misfit [] others = others
unless_misfit (p ∷ ps) others = p ∷ ps

-- What is asked of other forms, only where there is no misfit in those that it depends on.
abbrev pub where_fitting : List Place → List Place → List Place
where_fitting [] others = others
where_fitting (p ∷ ps) others = []

-- The place that stands first in the list; where it is empty this one.
abbrev pub first_or : Place → List Place → Place
first_or at [] = at
first_or at (p ∷ ps) = p

-- The list lacks an entry, of as many as it has to have at least.
abbrev pub lacking : ℕ → Place → List Form → List Place
lacking zero at fs = []
lacking (suc n) at [] = misfit at
lacking (suc n) at (f ∷ fs) = lacking n at fs

abbrev pub all_misfits : List (List Place) → List Place
all_misfits [] = []
all_misfits (e ∷ es) = e ++ all_misfits es

-- Those of each form.
abbrev pub each_misfits : (Form → List Place) → List Form → List Place
each_misfits inside [] = []
each_misfits inside (f ∷ fs) = inside f ++ each_misfits inside fs

-- Exactly as many entries as there are kinds, each of its kind: one that is missing is a misfit at the list's place,
-- one too many at the first too many, and one of another kind where its kind says.
abbrev pub entries_misfits : List (Form → List Place) → Place → List Form → List Place
entries_misfits [] at [] = []
entries_misfits [] at (f ∷ fs) = misfit (place_of f)
entries_misfits (kind ∷ kinds) at [] = misfit at
entries_misfits (kind ∷ kinds) at (f ∷ fs) = kind f ++ entries_misfits kinds at fs

-- ---- kinds of entries

-- A list, with what is asked of its entries.
abbrev pub list_misfits : (Place → List Form → List Place) → Form → List Place
list_misfits inside (list at fs) = inside at (items_of fs)
list_misfits inside f = misfit (place_of f)

-- A number that passes the test.
abbrev pub number_misfits : (ℕ → Bool) → Form → List Place
number_misfits fits (number at n) = misfit_unless (fits n) at
number_misfits fits f = misfit (place_of f)

-- A symbol that passes the test.
abbrev pub symbol_misfits : (List ℕ → Bool) → Form → List Place
symbol_misfits fits (symbol at t) = misfit_unless (fits t) at
symbol_misfits fits f = misfit (place_of f)

-- Any number.
abbrev pub any_number_misfits : Form → List Place
any_number_misfits f = number_misfits (λ n. true) f

-- ---- the first

-- p comes before q: by line, then by column.
abbrev pub place_before : Place → Place → Bool
place_before p q = nat_lt p.line q.line || ((p.line == q.line) && nat_lt p.col q.col)

-- The first of the misfits: one of them, and none stands before it.
pub record IsFirstMisfit (places : List Place) (p : Place) : Type 0 where
  pub listed : IsIn p places
  pub first : (q : Place) → IsIn q places → place_before q p ≡ false
