-- The items of a list, and what stands between them.
use Rattle.std.proofs.Common.{◌≡◌, ℕ, Bool, true, false, ◌+◌, ◌<◌, List, ◌∷◌, ◌++◌, length, get_or, drop, ap, Result, Ok, Err}
use Rattle.std.proofs.lemmas.List.{drop_more}
use Rattle.std.specs.Result.{OnErr}
use Rattle.cp_sexpr.specs.ListSpelling.{gap_before, next_by, first_by}
use Rattle.cp_sexpr.specs.Spelling.{spelling}
use Rattle.cp_sexpr.specs.View.{view, views}
use Rattle.cp_sexpr.specs.declared.form.Form as program

pub first_items : (is_top : Bool) (items others : List program.Form) (first : program.Form) → items ≡ first ∷ others →
    first_by is_top (views items) ≡ spelling (view first) ++ next_by is_top (views others)
first_items true items others first e = ap (λ fs. first_by true (views fs)) e
first_items false items others first e = ap (λ fs. first_by false (views fs)) e

pub next_items : (is_top : Bool) (items : List program.Form) (i : ℕ) (d : program.Form) → i < length items →
    next_by is_top (views (drop i items)) ≡ gap_before is_top (view (get_or items i d)) ++ (spelling (view (get_or items i d)) ++ next_by is_top (views (drop (i + 1) items)))
next_items true items i d h = ap (λ fs. next_by true (views fs)) (drop_more items i d h)
next_items false items i d h = ap (λ fs. next_by false (views fs)) (drop_more items i d h)

pub OnErr-from : {T E X : Type 0} (r : Result T E) → X → OnErr r X
OnErr-from (Ok x) h = tt
OnErr-from (Err e) h = h
