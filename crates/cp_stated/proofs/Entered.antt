-- The first two entries of a list, and items of label forms.
use Rattle.std.proofs.Common.{◌≡◌, List, [], ◌∷◌, ◌++◌, ℕ, ◌||◌, Bool, true, false, refl, sym, ap, ◌∙◌, if◌then◌else◌, length, map, arith}
use Rattle.std.specs.Prelude.{Option, Some, None}
use Rattle.cp_base.specs.declared.place.Place.{Place}
use Rattle.cp_lists.specs.Lists.{item_at}
use Rattle.cp_sexpr.specs.Syntax.{Form}
use Rattle.cp_sexpr.specs.View.{view}
use Rattle.cp_sexpr.specs.declared.form.Form as program
use Rattle.cp_language.specs.Faults.{place_of}
use Rattle.cp_model.specs.Same.{same_text}
use Rattle.cp_language.specs.Roles.{Headed, headed}
use Rattle.cp_language.specs.Problems.{first_form, second_form}
use Rattle.cp_report.specs.Misfits.{place_before, lacking}
use Rattle.cp_report.specs.Heads.{forms_after_head, optional_misfits, is_headed_by, has_head}
use Rattle.cp_spelled.specs.FirstMisfit.{first_onto}
use Rattle.cp_scope.proofs.FirstOf.{first_then}

pub first-item : (fs : List Form) → item_at fs 0 ≡ first_form fs
first-item [] = refl
first-item (f ∷ fs) = refl

pub second-item : (fs : List Form) → item_at fs 1 ≡ second_form fs
second-item [] = refl
second-item (f ∷ []) = refl
second-item (f ∷ g ∷ fs) = refl

-- what is asked of an item that is there
pub item-asked : (inside : Place → List Form → List Place) (f : Form) (found : Option Form) (at : Place) (es : List Form) (o p : Option Place) → Some f ≡ found → at ≡ place_of f → es ≡ forms_after_head f
    → p ≡ first_onto o (inside at es) → p ≡ first_onto o (optional_misfits inside found)
item-asked inside f found at es o p is e g h =
    h ∙ ap (λ x. first_onto o (inside x es)) e ∙ ap (λ x. first_onto o (inside (place_of f) x)) g ∙ ap (λ x. first_onto o (optional_misfits inside x)) is

pub item-missing : (inside : Place → List Form → List Place) (found : Option Form) (o : Option Place) → None ≡ found → o ≡ first_onto o (optional_misfits inside found)
item-missing inside found o is = ap (λ x. first_onto o (optional_misfits inside x)) is

-- no entries
pub no-entries : (fs : List program.Form) → length fs ≡ 0 → map view fs ≡ []
no-entries [] e = refl
no-entries (f ∷ fs) e = absurd (omega (arith, e))

-- an entry at least, and what is asked of all
pub all-asked : (inside : List Form → List Place) (f : Form) (found : Option Form) (at : Place) (es : List Form) (o p q : Option Place) → Some f ≡ found → at ≡ place_of f → es ≡ forms_after_head f
    → p ≡ first_onto o (lacking 1 at es) → q ≡ first_onto p (inside es) → q ≡ first_onto o (optional_misfits (λ x fs. lacking 1 x fs ++ inside fs) found)
all-asked inside f found at es o p q is e g h i =
    item-asked (λ x fs. lacking 1 x fs ++ inside fs) f found at es o q is e g (first_then place_before o p q (lacking 1 at es) (inside es) h i)

-- one of two, by a test
pub by-true : {A : Type 0} (b : Bool) (x y z : A) → b ≡ true → z ≡ x → z ≡ (if b then x else y)
by-true b x y z e h = h ∙ ap (λ c. if c then x else y) (sym e)

pub by-false : {A : Type 0} (b : Bool) (x y z : A) → b ≡ false → z ≡ y → z ≡ (if b then x else y)
by-false b x y z e h = h ∙ ap (λ c. if c then x else y) (sym e)

-- ---- one of two heads

first_or : (p q : Bool) → (p || false) ≡ true → true ≡ (p || q)
first_or true q h = refl
first_or false q h = absurd (cc)

second_or : (p q : Bool) → (p || false) ≡ false → q ≡ (p || q)
second_or true q h = absurd (cc)
second_or false q h = refl

headed_first : (a b : List ℕ) (o : Option Headed) → is_headed_by (a ∷ []) o ≡ true → true ≡ is_headed_by (a ∷ b ∷ []) o
headed_first a b None h = absurd (cc)
headed_first a b (Some x) h = first_or (same_text x.head a) (same_text x.head b || false) h

headed_second : (a b : List ℕ) (o : Option Headed) → is_headed_by (a ∷ []) o ≡ false → is_headed_by (b ∷ []) o ≡ is_headed_by (a ∷ b ∷ []) o
headed_second a b None h = refl
headed_second a b (Some x) h = second_or (same_text x.head a) (same_text x.head b || false) h

pub first-head : (a b : List ℕ) (f : Form) → has_head (a ∷ []) f ≡ true → true ≡ has_head (a ∷ b ∷ []) f
first-head a b f h = headed_first a b (headed f) h

pub second-head : (a b : List ℕ) (f : Form) → has_head (a ∷ []) f ≡ false → has_head (b ∷ []) f ≡ has_head (a ∷ b ∷ []) f
second-head a b f h = headed_second a b (headed f) h
