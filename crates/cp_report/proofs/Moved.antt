-- Where forms stand does not matter for whether they fit: forms with one place everywhere have as many misfits, and their
-- heads, identifiers and numbers are the same.
use Rattle.std.proofs.Common.{◌≡◌, ℕ, zero, suc, List, [], ◌∷◌, ◌++◌, true, false, refl, ◌∙◌, ap}
use Rattle.std.specs.Prelude.{Bool, map, option_map}
use Rattle.cp_lists.proofs.Mapped.{both_mapped}
use Rattle.cp_base.specs.declared.place.Place.{Place}
use Rattle.cp_sexpr.specs.Syntax.{Form, symbol, string, number, list, Forms, none, more}
use Rattle.cp_sexpr.specs.Pieces.{start}
use Rattle.cp_sexpr.specs.ReadBack.{unplaced, all_unplaced}
use Rattle.cp_language.specs.Faults.{place_of, items_of}
use Rattle.cp_language.specs.Roles.{front_of, last_form}
use Rattle.cp_report.specs.Misfits.{misfit, misfit_unless, unless_misfit, where_fitting, lacking, each_misfits, entries_misfits, list_misfits, number_misfits, symbol_misfits, any_number_misfits}
use Rattle.cp_report.specs.Heads.{has_head, forms_after_head}

-- As many misfits, all at one place.
abbrev pub at_start : List Place → List Place
at_start ps = map (λ p. start) ps

abbrev pub all_moved : List Form → List Form
all_moved fs = map unplaced fs

-- What finds misfits in a form finds as many in the form with one place.
abbrev pub IsMoved : (Form → List Place) → Type 0
IsMoved kind = (f : Form) → kind (unplaced f) ≡ at_start (kind f)

-- ---- lists of misfits

-- two parts, each of them moved
pub both : (xs ys us vs : List Place) → us ≡ at_start xs → vs ≡ at_start ys → us ++ vs ≡ at_start (xs ++ ys)
both = both_mapped (λ p. start)

pub unless_moved : (xs ys us vs : List Place) → us ≡ at_start xs → vs ≡ at_start ys → unless_misfit us vs ≡ at_start (unless_misfit xs ys)
unless_moved [] ys us vs e f = ap (λ zs. unless_misfit zs vs) e ∙ f
unless_moved (x ∷ xs) ys us vs e f = ap (λ zs. unless_misfit zs vs) e

pub where_moved : (xs ys us vs : List Place) → us ≡ at_start xs → vs ≡ at_start ys → where_fitting us vs ≡ at_start (where_fitting xs ys)
where_moved [] ys us vs e f = ap (λ zs. where_fitting zs vs) e ∙ f
where_moved (x ∷ xs) ys us vs e f = ap (λ zs. where_fitting zs vs) e

-- a test that answers the same
pub test_moved : (a b : Bool) (p : Place) → a ≡ b → misfit_unless a start ≡ at_start (misfit_unless b p)
test_moved a true p e = ap (λ c. misfit_unless c start) e
test_moved a false p e = ap (λ c. misfit_unless c start) e

-- ---- forms

pub place_moved : (f : Form) → place_of (unplaced f) ≡ start
place_moved (symbol at t) = refl
place_moved (string at t) = refl
place_moved (number at n) = refl
place_moved (list at fs) = refl

pub items_moved : (fs : Forms) → items_of (all_unplaced fs) ≡ all_moved (items_of fs)
items_moved none = refl
items_moved (more f fs) = ap (λ gs. unplaced f ∷ gs) (items_moved fs)

pub head_moved : (heads : List (List ℕ)) (f : Form) → has_head heads (unplaced f) ≡ has_head heads f
head_moved heads (symbol at t) = refl
head_moved heads (string at t) = refl
head_moved heads (number at n) = refl
head_moved heads (list at none) = refl
head_moved heads (list at (more (symbol p t) fs)) = refl
head_moved heads (list at (more (string p t) fs)) = refl
head_moved heads (list at (more (number p n) fs)) = refl
head_moved heads (list at (more (list p gs) fs)) = refl

pub entries_moved : (f : Form) → forms_after_head (unplaced f) ≡ all_moved (forms_after_head f)
entries_moved (symbol at t) = refl
entries_moved (string at t) = refl
entries_moved (number at n) = refl
entries_moved (list at none) = refl
entries_moved (list at (more (symbol p t) fs)) = items_moved fs
entries_moved (list at (more (string p t) fs)) = refl
entries_moved (list at (more (number p n) fs)) = refl
entries_moved (list at (more (list p gs) fs)) = refl

pub last_moved : (fs : List Form) → last_form (all_moved fs) ≡ option_map unplaced (last_form fs)
last_moved [] = refl
last_moved (f ∷ []) = refl
last_moved (f ∷ g ∷ fs) = last_moved (g ∷ fs)

pub front_moved : (fs : List Form) → front_of (all_moved fs) ≡ all_moved (front_of fs)
front_moved [] = refl
front_moved (f ∷ []) = refl
front_moved (f ∷ g ∷ fs) = ap (λ gs. unplaced f ∷ gs) (front_moved (g ∷ fs))

-- ---- kinds of entries

pub lacking_moved : (n : ℕ) (at : Place) (fs : List Form) → lacking n start (all_moved fs) ≡ at_start (lacking n at fs)
lacking_moved zero at fs = refl
lacking_moved (suc n) at [] = refl
lacking_moved (suc n) at (f ∷ fs) = lacking_moved n at fs

pub each_moved : (kind : Form → List Place) → IsMoved kind → (fs : List Form) → each_misfits kind (all_moved fs) ≡ at_start (each_misfits kind fs)
each_moved kind m [] = refl
each_moved kind m (f ∷ fs) = both (kind f) (each_misfits kind fs) _ _ (m f) (each_moved kind m fs)

-- Each of the kinds finds as many.
abbrev pub AreMoved : List (Form → List Place) → Type 0
AreMoved [] = Unit {0}
AreMoved (kind ∷ kinds) = IsMoved kind × AreMoved kinds

pub entries_misfits_moved : (kinds : List (Form → List Place)) (at : Place) (fs : List Form) → AreMoved kinds → entries_misfits kinds start (all_moved fs) ≡ at_start (entries_misfits kinds at fs)
entries_misfits_moved [] at [] m = refl
entries_misfits_moved [] at (f ∷ fs) m = ap misfit (place_moved f)
entries_misfits_moved (kind ∷ kinds) at [] m = refl
entries_misfits_moved (kind ∷ kinds) at (f ∷ fs) m = both (kind f) (entries_misfits kinds at fs) _ _ (m.0 f) (entries_misfits_moved kinds at fs m.1)

pub symbol_moved : (fits : List ℕ → Bool) → IsMoved (symbol_misfits fits)
symbol_moved fits (symbol at t) = test_moved (fits t) (fits t) at refl
symbol_moved fits (string at t) = refl
symbol_moved fits (number at n) = refl
symbol_moved fits (list at fs) = refl

pub number_moved : (fits : ℕ → Bool) → IsMoved (number_misfits fits)
number_moved fits (symbol at t) = refl
number_moved fits (string at t) = refl
number_moved fits (number at n) = test_moved (fits n) (fits n) at refl
number_moved fits (list at fs) = refl

pub any_number_moved : IsMoved any_number_misfits
any_number_moved f = number_moved (λ n. true) f

-- What finds misfits in the entries of a list.
abbrev pub IsMovedInside : (Place → List Form → List Place) → Type 0
IsMovedInside inside = (at : Place) (fs : List Form) → inside start (all_moved fs) ≡ at_start (inside at fs)

pub list_moved : (inside : Place → List Form → List Place) → IsMovedInside inside → IsMoved (list_misfits inside)
list_moved inside m (symbol at t) = refl
list_moved inside m (string at t) = refl
list_moved inside m (number at n) = refl
list_moved inside m (list at fs) = ap (inside start) (items_moved fs) ∙ m at (items_of fs)
