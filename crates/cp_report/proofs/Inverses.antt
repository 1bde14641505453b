-- One renaming and then the inverse of another: where both make the same of two terms, it makes the one of the other.
use Rattle.std.proofs.Common.{◌≡◌, ⊎_elim, ℕ, List, [], ◌∷◌, ◌++◌, Bool, true, false, refl, sym, ap, ◌∙◌, subst, if◌then◌else◌}
use Rattle.std.specs.Prelude.{◌&&◌, ◌==◌}
use Rattle.std.proofs.lemmas.Bool.{eq-eqb}
use Rattle.cp_lists.specs.Lists.{IsIn, here, there}
use Rattle.cp_lists.proofs.Members.{only_item, in_append, in_append_left}
use Rattle.cp_model.specs.Term.{variable_term, AtomTerm, Term, atom_term, variables_of_atom, variables_of, Substitution, apply_to, apply_to_atom, composed}
use Rattle.cp_model.specs.declared.sort.Sort.{Sort}
use Rattle.cp_model.specs.declared.sort.Sort.TheVariants.{Text as text_sort, Datum as datum_sort, Name as name_sort, Skey as skey_sort, Akey as akey_sort}
use Rattle.cp_model.specs.declared.variable.Variable.{Variable}
use Rattle.cp_model.specs.Identity.{unchanged}
use Rattle.cp_model.specs.Stated.{IsImageOfOne, AreImages}
use Rattle.cp_model.specs.Same.{same_sort}
use Rattle.cp_model.proofs.SameTests.{variable_is, same_sort_itself}
use Rattle.cp_model.proofs.LawTerms.{atom_composed, term_composed, atom_unchanged, term_unchanged}
use Rattle.cp_model.proofs.LawAgreement.{agree_atom, agree_term}
use Rattle.cp_model.specs.declared.strand.Event.TheVariants.{Send as send}
use Rattle.cp_model.proofs.OccurringVariables.{in_trace_under}
use Rattle.cp_model.proofs.UnderVariables.{of_trace}
use Rattle.cp_report.specs.UpToNames.{variable_numbered, renamed, renaming, IsOneToOne}

-- ---- variables under a substitution, of terms and atoms by what is sent

in_sent : (t : Term) (x : Variable) → IsIn x (variables_of t ++ []) → IsIn x (variables_of t)
in_sent t x m = ⊎_elim (λ i. i) (λ i. elim i [ ]) (in_append (variables_of t) [] m)

of_term : (P : Variable → Type 0) (s : Substitution) (t : Term) → ((x : Variable) → IsIn x (variables_of t) → (y : Variable) → IsIn y (variables_of (apply_to s (variable_term x))) → P y) → (y : Variable) → IsIn y (variables_of (apply_to s t)) → P y
of_term P s t h y i = of_trace P s (send t ∷ []) (λ x m. h x (in_sent t x m)) y (in_append_left [] i)

in_term : (s : Substitution) (x y : Variable) → IsIn y (variables_of (apply_to s (variable_term x))) → (t : Term) → IsIn x (variables_of t) → IsIn y (variables_of (apply_to s t))
in_term s x y given t i = in_sent (apply_to s t) y (in_trace_under s (send t ∷ []) x y (in_append_left [] i) given)

of_atom : (P : Variable → Type 0) (s : Substitution) (v : AtomTerm) → ((x : Variable) → IsIn x (variables_of_atom v) → (y : Variable) → IsIn y (variables_of (apply_to s (variable_term x))) → P y) → (y : Variable) → IsIn y (variables_of_atom (apply_to_atom s v)) → P y
of_atom P s v h y i = of_term P s (atom_term v) h y i

in_atom : (s : Substitution) (x y : Variable) → IsIn y (variables_of (apply_to s (variable_term x))) → (v : AtomTerm) → IsIn x (variables_of_atom v) → IsIn y (variables_of_atom (apply_to_atom s v))
in_atom s x y given v i = in_term s x y given (atom_term v) i

-- ---- renamed variables

by_sort : (number : Variable → ℕ) (s : Sort) (n : ℕ) → apply_to (renaming number) (variable_term (variable_numbered s n)) ≡ variable_term (variable_numbered s (number (variable_numbered s n)))
by_sort number text_sort n = refl
by_sort number datum_sort n = refl
by_sort number name_sort n = refl
by_sort number skey_sort n = refl
by_sort number akey_sort n = refl

pub renamed_variable : (number : Variable → ℕ) (x : Variable) → apply_to (renaming number) (variable_term x) ≡ variable_term (renamed number x)
renamed_variable number x = by_sort number x.sort x.number

pub only_variable : (s : Sort) (n : ℕ) → variables_of (variable_term (variable_numbered s n)) ≡ variable_numbered s n ∷ []
only_variable text_sort n = refl
only_variable datum_sort n = refl
only_variable name_sort n = refl
only_variable skey_sort n = refl
only_variable akey_sort n = refl

its_variable : (number : Variable → ℕ) (x : Variable) → variables_of (apply_to (renaming number) (variable_term x)) ≡ renamed number x ∷ []
its_variable number x = ap variables_of (renamed_variable number x) ∙ only_variable x.sort (number x)

pub renamed_in : (number : Variable → ℕ) (x : Variable) → IsIn (renamed number x) (variables_of (apply_to (renaming number) (variable_term x)))
renamed_in number x = subst (λ (xs : List Variable). IsIn (renamed number x) xs) (sym (its_variable number x)) here

pub is_renamed : (number : Variable → ℕ) (x w : Variable) → IsIn w (variables_of (apply_to (renaming number) (variable_term x))) → renamed number x ≡ w
is_renamed number x w i = sym (only_item (subst (λ (xs : List Variable). IsIn w xs) (its_variable number x) i))

-- A variable among these that is renamed to w.
pub record ComesFrom (number : Variable → ℕ) (xs : List Variable) (w : Variable) : Type 0 where
  pub from : Variable
  pub listed : IsIn from xs
  pub is : renamed number from ≡ w

-- The variables of a term under a renaming are those of the term, renamed.
pub term_onto : (number : Variable → ℕ) (t : Term) (x : Variable) → IsIn x (variables_of t) → IsIn (renamed number x) (variables_of (apply_to (renaming number) t))
term_onto number t x m = in_term (renaming number) x (renamed number x) (renamed_in number x) t m

pub term_from : (number : Variable → ℕ) (t : Term) (w : Variable) → IsIn w (variables_of (apply_to (renaming number) t)) → ComesFrom number (variables_of t) w
term_from number t w m = of_term (ComesFrom number (variables_of t)) (renaming number) t (λ x i y j. record { from = x; listed = i; is = is_renamed number x y j }) w m

pub atom_onto : (number : Variable → ℕ) (v : AtomTerm) (x : Variable) → IsIn x (variables_of_atom v) → IsIn (renamed number x) (variables_of_atom (apply_to_atom (renaming number) v))
atom_onto number v x m = in_atom (renaming number) x (renamed number x) (renamed_in number x) v m

pub atom_from : (number : Variable → ℕ) (v : AtomTerm) (w : Variable) → IsIn w (variables_of_atom (apply_to_atom (renaming number) v)) → ComesFrom number (variables_of_atom v) w
atom_from number v w m = of_atom (ComesFrom number (variables_of_atom v)) (renaming number) v (λ x i y j. record { from = x; listed = i; is = is_renamed number x y j }) w m

-- ---- the inverse

-- The number of the first of these variables that is renamed to w.
abbrev pub inverse : (Variable → ℕ) → List Variable → Variable → ℕ
inverse number [] w = 0
inverse number (x ∷ xs) w = if same_sort x.sort w.sort && (number x == w.number) then x.number else inverse number xs w

-- It gives back what is renamed one to one.
pub inverse_back : (number : Variable → ℕ) (xs : List Variable) → IsOneToOne number xs → (y : Variable) → IsIn y xs → inverse number xs (renamed number y) ≡ y.number
inverse_back number xs one y m = go xs (λ x i. i) m
  where
    itself : (same_sort y.sort y.sort && (number y == number y)) ≡ true
    itself = ap (λ b. b && (number y == number y)) (same_sort_itself y.sort) ∙ eq-eqb (number y) (number y) refl

    go : (zs : List Variable) → ((x : Variable) → IsIn x zs → IsIn x xs) → IsIn y zs → inverse number zs (renamed number y) ≡ y.number
    go [] within i = elim i [ ]
    go (z ∷ zs) within here = ap (λ b. if b then y.number else inverse number zs (renamed number y)) itself
    go (z ∷ zs) within (there i) = by (same_sort z.sort y.sort && (number z == number y)) refl (go zs (λ x j. within x (there j)) i)
      where
        by : (b : Bool) → (same_sort z.sort y.sort && (number z == number y)) ≡ b → inverse number zs (renamed number y) ≡ y.number → (if b then z.number else inverse number zs (renamed number y)) ≡ y.number
        by true e rest = ap (λ (x : Variable). x.number) (one z y (within z here) (within y (there i)) (variable_is (renamed number z) (renamed number y) e))
        by false e rest = rest

-- ---- one renaming, and then back by another

-- The variables are renamed to those to which the second renames.
abbrev pub AreCovered : (Variable → ℕ) → List Variable → (Variable → ℕ) → List Variable → Type 0
AreCovered a xs b ys = (x : Variable) → IsIn x xs → ComesFrom b ys (renamed a x)

-- First by the one, and then back by the other, whose variables these are.
abbrev pub through : (Variable → ℕ) → (Variable → ℕ) → List Variable → Variable → ℕ
through a b ys x = inverse b ys (renamed a x)

module _ (a b : Variable → ℕ) (ys : List Variable) (one : IsOneToOne b ys) where
  abbrev pub back : Variable → ℕ
  back w = inverse b ys w

  returned : (y : Variable) → IsIn y ys → apply_to (composed (renaming b) (renaming back)) (variable_term y) ≡ apply_to unchanged (variable_term y)
  returned y m =
      term_composed (renaming b) (renaming back) (variable_term y) ∙ ap (apply_to (renaming back)) (renamed_variable b y) ∙ renamed_variable back (renamed b y)
      ∙ ap (λ (n : ℕ). variable_term (variable_numbered y.sort n)) (inverse_back b ys one y m) ∙ sym (term_unchanged (variable_term y))

  pub term_returned : (t : Term) → ((y : Variable) → IsIn y (variables_of t) → IsIn y ys) → apply_to (renaming back) (apply_to (renaming b) t) ≡ t
  term_returned t within =
      sym (term_composed (renaming b) (renaming back) t) ∙ agree_term (composed (renaming b) (renaming back)) unchanged t (λ y m. returned y (within y m)) ∙ term_unchanged t

  pub atom_returned : (v : AtomTerm) → ((y : Variable) → IsIn y (variables_of_atom v) → IsIn y ys) → apply_to_atom (renaming back) (apply_to_atom (renaming b) v) ≡ v
  atom_returned v within =
      sym (atom_composed (renaming b) (renaming back) v) ∙ agree_atom (composed (renaming b) (renaming back)) unchanged v (λ y m. returned y (within y m)) ∙ atom_unchanged v

  pub term_in_two : (t : Term) → apply_to (renaming (through a b ys)) t ≡ apply_to (renaming back) (apply_to (renaming a) t)
  term_in_two t = term_composed (renaming a) (renaming back) t

  pub atom_in_two : (v : AtomTerm) → apply_to_atom (renaming (through a b ys)) v ≡ apply_to_atom (renaming back) (apply_to_atom (renaming a) v)
  atom_in_two v = atom_composed (renaming a) (renaming back) v

  -- Terms of which the two make the same.
  pub term_through : (t u : Term) → ((y : Variable) → IsIn y (variables_of u) → IsIn y ys) → apply_to (renaming a) t ≡ apply_to (renaming b) u → apply_to (renaming (through a b ys)) t ≡ u
  term_through t u within e = term_in_two t ∙ ap (apply_to (renaming back)) e ∙ term_returned u within

  pub atom_through : (v w : AtomTerm) → ((y : Variable) → IsIn y (variables_of_atom w) → IsIn y ys) → apply_to_atom (renaming a) v ≡ apply_to_atom (renaming b) w → apply_to_atom (renaming (through a b ys)) v ≡ w
  atom_through v w within e = atom_in_two v ∙ ap (apply_to_atom (renaming back)) e ∙ atom_returned w within

  -- A variable that is renamed to what another one is.
  pub variable_through : (x y : Variable) → IsIn y ys → renamed b y ≡ renamed a x → renamed (through a b ys) x ≡ y
  variable_through x y m e =
      let s : y.sort ≡ x.sort = ap (λ (z : Variable). z.sort) e in
      let n : through a b ys x ≡ y.number = ap (inverse b ys) (sym e) ∙ inverse_back b ys one y m in
      let r : x.sort ≡ y.sort = sym s in
      λ i. variable_numbered (r i) (n i)

  -- It is one to one where the first is, and its variables are covered.
  pub one_through : (xs : List Variable) → IsOneToOne a xs → AreCovered a xs b ys → IsOneToOne (through a b ys) xs
  one_through xs first covered x z m k e =
      let p = covered x m in let q = covered z k in
      first x z m k (sym p.is ∙ ap (renamed b) (sym (variable_through x p.from p.listed p.is) ∙ e ∙ variable_through z q.from q.listed q.is) ∙ q.is)

-- Lists of which two functions make the same.
pub images_through : {A B C : Type 0} (f : A → C) (k : B → C) (g : A → B) (h : C → B) (xs : List A) (ys : List B) (zs : List C) → AreImages f xs zs → AreImages k ys zs
    → ((x : A) → IsIn x xs → g x ≡ h (f x)) → ((y : B) → IsIn y ys → h (k y) ≡ y) → AreImages g xs ys
images_through f k g h xs ys zs p q two back y = (forth, from)
  where
    forth : IsIn y ys → IsImageOfOne g xs y
    forth m =
        let one = (p (k y)).0 ((q (k y)).1 (record { item = y; listed = m; image = refl })) in
        record { item = one.item; listed = one.listed; image = two one.item one.listed ∙ ap h one.image ∙ back y m }

    from : IsImageOfOne g xs y → IsIn y ys
    from one =
        let r = (q (f one.item)).0 ((p (f one.item)).1 (record { item = one.item; listed = one.listed; image = refl })) in
        subst (λ z. IsIn z ys) (sym (back r.item r.listed) ∙ ap h r.image ∙ sym (two one.item one.listed) ∙ one.image) r.listed
