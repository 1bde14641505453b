-- Where a pattern stands does not matter for whether it fits, nor for which pattern it is.
use Rattle.std.proofs.Common.{◌≡◌, List, [], ◌∷◌, ◌++◌, true, refl, sym, ◌∙◌, ap}
use Rattle.std.specs.Prelude.{Option, Some, None, map, codes, length, if◌then◌else◌}
use Rattle.cp_base.specs.declared.place.Place.{Place}
use Rattle.cp_model.specs.declared.variable.Declaration.{Declaration}
use Rattle.cp_model.specs.declared.variable.Variable.{Variable}
use Rattle.cp_sexpr.specs.Syntax.{Form, symbol, string, number, list, Forms, none, more}
use Rattle.cp_sexpr.specs.Pieces.{start}
use Rattle.cp_sexpr.specs.ReadBack.{unplaced, all_unplaced}
use Rattle.cp_report.specs.declared.locals.LocalAt.{LocalAt}
use Rattle.cp_report.specs.Heads.{has_head, forms_after_head}
use Rattle.cp_report.specs.Spelled.{is_any, local_by, local_of, term_misfits, term_in, local_at, locals_in, locals_in_each, keeps_sort, clash_misfits, has_local, locals_onto, pattern_scope, pattern_misfits, variables_of_locals, pattern_of}
use Rattle.cp_report.proofs.Moved.{at_start, IsMoved, both, test_moved, head_moved, entries_moved}
use Rattle.cp_report.proofs.MovedTerms.{local_by_moved, test_at_form, term_moved, term_in_moved}

-- The same locals, all at one place.
abbrev pub locals_at_start : List LocalAt → List LocalAt
locals_at_start ls = map (λ l. record { place = start; local = l.local }) ls

local_of_moved : (f : Form) → local_of (unplaced f) ≡ local_of f
local_of_moved f =
    ap (λ b. if b then local_by (forms_after_head (unplaced f)) else None) (head_moved (codes "any" ∷ []) f)
    ∙ ap (λ o. if is_any f then o else None) (ap local_by (entries_moved f) ∙ local_by_moved (forms_after_head f))

local_at_moved : (at : Place) (o : Option Variable) → local_at start o ≡ locals_at_start (local_at at o)
local_at_moved at None = refl
local_at_moved at (Some l) = refl

locals_joined : (xs ys : List LocalAt) → locals_at_start (xs ++ ys) ≡ locals_at_start xs ++ locals_at_start ys
locals_joined [] ys = refl
locals_joined (x ∷ xs) ys = ap (λ zs. record { place = start; local = x.local } ∷ zs) (locals_joined xs ys)

mutual
  locals_moved : (f : Form) → locals_in (unplaced f) ≡ locals_at_start (locals_in f)
  locals_moved (symbol at t) = refl
  locals_moved (string at t) = refl
  locals_moved (number at n) = refl
  locals_moved (list at fs) =
      ap (λ o. local_at start o ++ locals_in_each (all_unplaced fs)) (local_of_moved (list at fs))
      ∙ ap (λ ls. ls ++ locals_in_each (all_unplaced fs)) (local_at_moved at (local_of (list at fs)))
      ∙ ap (λ ls. locals_at_start (local_at at (local_of (list at fs))) ++ ls) (each_locals_moved fs)
      ∙ sym (locals_joined (local_at at (local_of (list at fs))) (locals_in_each fs))

  each_locals_moved : (fs : Forms) → locals_in_each (all_unplaced fs) ≡ locals_at_start (locals_in_each fs)
  each_locals_moved none = refl
  each_locals_moved (more f fs) =
      ap (λ ls. ls ++ locals_in_each (all_unplaced fs)) (locals_moved f) ∙ ap (λ ls. locals_at_start (locals_in f) ++ ls) (each_locals_moved fs) ∙ sym (locals_joined (locals_in f) (locals_in_each fs))

clash_moved : (before : List Variable) (ls : List LocalAt) → clash_misfits before (locals_at_start ls) ≡ at_start (clash_misfits before ls)
clash_moved before [] = refl
clash_moved before (l ∷ ls) = both _ _ _ _ (test_moved (keeps_sort before l.local) (keeps_sort before l.local) l.place refl) (clash_moved (before ++ l.local ∷ []) ls)

onto_moved : (before : List Variable) (ls : List LocalAt) → locals_onto before (locals_at_start ls) ≡ locals_onto before ls
onto_moved before [] = refl
onto_moved before (l ∷ ls) = onto_moved (if has_local before l.local.number then before else before ++ l.local ∷ []) ls

locals_same : (f : Form) → locals_onto [] (locals_in (unplaced f)) ≡ locals_onto [] (locals_in f)
locals_same f = ap (locals_onto []) (locals_moved f) ∙ onto_moved [] (locals_in f)

scope_same : (ds : List Declaration) (f : Form) → pattern_scope ds (unplaced f) ≡ pattern_scope ds f
scope_same ds f = ap (λ ls. record { variables = ds; in_pattern = true; locals = ls }) (locals_same f)

pub pattern_misfits_moved : (ds : List Declaration) → IsMoved (pattern_misfits ds)
pattern_misfits_moved ds f =
    both _ _ _ _ (both _ _ _ _
    (test_at_form (has_head (codes "enc" ∷ []) (unplaced f)) (has_head (codes "enc" ∷ []) f) f (head_moved (codes "enc" ∷ []) f))
    (ap (λ s. term_misfits s (unplaced f)) (scope_same ds f) ∙ term_moved (pattern_scope ds f) f))
    (ap (clash_misfits []) (locals_moved f) ∙ clash_moved [] (locals_in f))

pub pattern_moved : (ds : List Declaration) (f : Form) → pattern_of ds (unplaced f) ≡ pattern_of ds f
pattern_moved ds f =
    let t = ap (λ s. term_in s (unplaced f)) (scope_same ds f) ∙ term_in_moved (pattern_scope ds f) f in
    let l = ap (variables_of_locals (length ds)) (locals_same f) in
    λ i. record { term = t i; locals = l i }
