-- Locals as they stand in a form.
use Rattle.std.proofs.Common.{◌≡◌, ℕ, suc, ◌+◌, ◌<◌, ◌≤◌, List, [], ◌∷◌, ◌++◌, length, get_or, map, drop, Vec, Global, refl, sym, ap, ◌∙◌, arith}
use Rattle.std.specs.Prelude.{None}
use Rattle.std.proofs.lemmas.List.{append_assoc, append-nil, drop_all}
use Rattle.cp_lists.proofs.Members.{drop_read}
use Rattle.cp_base.specs.declared.place.Place.{Place}
use Rattle.cp_model.specs.declared.variable.Variable.{Variable}
use Rattle.cp_sexpr.specs.Syntax.{Form, symbol, string, number, list, forms_of}
use Rattle.cp_sexpr.specs.View.{view, views}
use Rattle.cp_sexpr.specs.declared.form.Form as program
use Rattle.cp_scope.proofs.Views.{view-List}
use Rattle.cp_scope.proofs.Sizes.{form_size, forms_size}
use Rattle.cp_report.specs.declared.locals.LocalAt.{LocalAt}
use Rattle.cp_report.specs.Spelled.{local_by, local_at, local_of, locals_in, locals_in_each, variables_of_locals}
use Rattle.cp_spelled.specs.LocalParts.{sort_symbol, local_alone}

-- the items of a list are smaller
pub list_smaller : (f : program.Form) (at : Place) (v : Vec program.Form Global) (fs : List program.Form) → f ≡ program.List at v → fs ≡ v.items → forms_size (map view fs) < form_size (view f)
list_smaller f at v fs e g =
    let size = ap form_size (ap view e ∙ view-List at v) in
    let same = ap (λ gs. forms_size (map view gs)) g in
    omega (arith, size, same)

module _ (fs : List program.Form) (k : ℕ) where
  pub locals-taken : (f : program.Form) → k < length fs → f ≡ get_or fs k f → (ls ms all : List LocalAt) → ms ≡ ls ++ locals_in (view f)
      → ls ++ locals_in_each (forms_of (map view (drop k fs))) ≡ all → ms ++ locals_in_each (forms_of (map view (drop (k + 1) fs))) ≡ all
  locals-taken f h e ls ms all g i =
      let rest = locals_in_each (forms_of (map view (drop (k + 1) fs))) in
      ap (λ x. x ++ rest) g ∙ append_assoc ls (locals_in (view f)) rest ∙ sym (ap (λ gs. ls ++ locals_in_each (forms_of (map view gs))) (drop_read fs k f h e)) ∙ i

  pub locals-done : length fs ≤ k → (ls all : List LocalAt) → ls ++ locals_in_each (forms_of (map view (drop k fs))) ≡ all → ls ≡ all
  locals-done h ls all i = sym (append-nil ls) ∙ ap (λ gs. ls ++ locals_in_each (forms_of (map view gs))) (sym (drop_all k fs h)) ∙ i

-- those of a list: its own and those in its items
pub locals-inside : (f : program.Form) (at : Place) (v : Vec program.Form Global) (fs : List program.Form) → f ≡ program.List at v → fs ≡ v.items → (old own all : List LocalAt)
    → own ≡ old ++ local_at at (local_of (view f)) → all ≡ own ++ locals_in_each (forms_of (map view fs)) → all ≡ old ++ locals_in (view f)
locals-inside f at v fs e g old own all h i =
    let seen : view f ≡ list at (views v.items) = ap view e ∙ view-List at v in
    i ∙ ap (λ x. x ++ locals_in_each (forms_of (map view fs))) h
    ∙ append_assoc old (local_at at (local_of (view f))) (locals_in_each (forms_of (map view fs)))
    ∙ ap (λ gs. old ++ (local_at at (local_of (view f)) ++ locals_in_each (forms_of (map view gs)))) g
    ∙ ap (λ x. old ++ (local_at at (local_of x) ++ locals_in_each (views v.items))) seen
    ∙ ap (λ x. old ++ locals_in x) (sym seen)

none-alone : (fs : List Form) → local_alone None fs ≡ None
none-alone [] = refl
none-alone (g ∷ []) = refl
none-alone (g ∷ h ∷ hs) = refl

pub local-stated : (f : Form) (fs : List Form) → local_alone (sort_symbol f) fs ≡ local_by (f ∷ fs)
local-stated (symbol at t) [] = refl
local-stated (symbol at t) (g ∷ []) = refl
local-stated (symbol at t) (g ∷ h ∷ hs) = refl
local-stated (string at t) fs = none-alone fs
local-stated (number at n) fs = none-alone fs
local-stated (list at gs) fs = none-alone fs

-- ---- locals as variables

pub variables-taken : (count : ℕ) (ls : List Variable) (k : ℕ) (l : Variable) → k < length ls → l ≡ get_or ls k l → (xs ys all : List Variable) (n : ℕ) → n ≡ count + k
    → ys ≡ xs ++ record { sort = l.sort; number = n } ∷ [] → xs ++ variables_of_locals (count + k) (drop k ls) ≡ all
    → ys ++ variables_of_locals (count + (k + 1)) (drop (k + 1) ls) ≡ all
variables-taken count ls k l h r xs ys all n e g i =
    let rest = drop (k + 1) ls in
    let next : count + (k + 1) ≡ suc (count + k) = omega arith in
    ap (λ zs. zs ++ variables_of_locals (count + (k + 1)) rest) g
    ∙ append_assoc xs (record { sort = l.sort; number = n } ∷ []) (variables_of_locals (count + (k + 1)) rest)
    ∙ ap (λ m. xs ++ record { sort = l.sort; number = n } ∷ variables_of_locals m rest) next
    ∙ ap (λ m. xs ++ record { sort = l.sort; number = m } ∷ variables_of_locals (suc (count + k)) rest) e
    ∙ sym (ap (λ zs. xs ++ variables_of_locals (count + k) zs) (drop_read ls k l h r)) ∙ i
