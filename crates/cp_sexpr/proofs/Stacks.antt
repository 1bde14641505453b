-- A builder's lists, innermost last, as lists that are not closed yet, innermost first.
use Rattle.std.proofs.Common.{◌≡◌, suc, ◌+◌, List, [], ◌∷◌, ◌++◌, length, refl, sym, ap, ap₂, zero-add, ◌∙◌, arith, rules, Vec}
use Rattle.std.specs.declared.alloc.Global.{Global}
use Rattle.cp_base.specs.declared.place.Place.{Place}
use Rattle.cp_sexpr.specs.Syntax.{list, Forms, none, more, append}
use Rattle.cp_sexpr.specs.View.{view, views}
use Rattle.cp_sexpr.specs.UnfinishedForms.{Unfinished, Building, with_item, with_list_open, with_list_closed, unfinished_onto, places_of_unclosed}
use Rattle.cp_sexpr.specs.declared.form.Form as program
use Rattle.cp_sexpr.specs.declared.form.Form.{the_lemmas}
use Rattle.cp_sexpr.specs.declared.builder.OpenList.{OpenList}

pub append-none : (fs : Forms) → append fs none ≡ fs
append-none none = refl
append-none (more f fs) = ap (more f) (append-none fs)

pub append-append : (fs gs hs : Forms) → append (append fs gs) hs ≡ append fs (append gs hs)
append-append none gs hs = refl
append-append (more f fs) gs hs = ap (more f) (append-append fs gs hs)

pub views-push : (fs : List program.Form) (f : program.Form) → views (fs ++ f ∷ []) ≡ append (views fs) (more (view f) none)
views-push [] f = refl
views-push (g ∷ fs) f = ap (more (view g)) (views-push fs f)

abbrev pub unfinished : OpenList → Unfinished
unfinished l = record { place = l.place; before = views l.before.items }

pub unfinished_onto-push : (onto : List Unfinished) (ls : List OpenList) (l : OpenList) → unfinished_onto onto (ls ++ l ∷ []) ≡ unfinished l ∷ unfinished_onto onto ls
unfinished_onto-push onto [] l = refl
unfinished_onto-push onto (k ∷ ls) l = unfinished_onto-push (unfinished k ∷ onto) ls l

pub length-unfinished_onto : (onto : List Unfinished) (ls : List OpenList) → length (unfinished_onto onto ls) ≡ length onto + length ls
length-unfinished_onto onto [] = omega arith
length-unfinished_onto onto (k ∷ ls) = let h = length-unfinished_onto (unfinished k ∷ onto) ls in omega arith

pub length-places_of : (ls : List Unfinished) → length (places_of_unclosed ls) ≡ length ls
length-places_of [] = refl
length-places_of (l ∷ ls) = ap suc (length-places_of ls)

pub view-List : (at : Place) (v : Vec program.Form Global) → view (program.List at v) ≡ list at (views v.items)
view-List at v = search (rules, the_lemmas)

pub length-open : (ls : List OpenList) → length (places_of_unclosed (unfinished_onto [] ls)) ≡ length ls
length-open ls = length-places_of (unfinished_onto [] ls) ∙ length-unfinished_onto [] ls ∙ zero-add (length ls)

abbrev pub built : List Unfinished → Forms → Building
built ls fs = record { lists = ls; items = fs }

-- a list is opened: it is the last, and holds the forms before it
pub opened_is : (lists now : List OpenList) (l : OpenList) (items before : Forms) → now ≡ lists ++ l ∷ [] → views l.before.items ≡ before → items ≡ none
    → built (unfinished_onto [] now) items ≡ with_list_open l.place (built (unfinished_onto [] lists) before)
opened_is lists now l items before e f g =
    ap₂ built (ap (unfinished_onto []) e ∙ unfinished_onto-push [] lists l ∙ ap (λ fs. record { place = l.place; before = fs } ∷ unfinished_onto [] lists) f) g

-- a list is closed: it is the last, and is a form behind those before it
pub closed_is : (lists left : List OpenList) (l : OpenList) (items inside before : Vec program.Form Global) → lists ≡ left ++ l ∷ [] → items ≡ l.before → inside ≡ before
    → with_item (built (unfinished_onto [] left) (views items.items)) (view (program.List l.place inside)) ≡ with_list_closed (unfinished_onto [] lists) (views before.items)
closed_is lists left l items inside before e f g =
    ap₂ (λ fs form. with_item (built (unfinished_onto [] left) fs) form) (ap (λ v. views v.items) f) (view-List l.place inside ∙ ap (λ v. list l.place (views v.items)) g)
    ∙ sym (ap (λ ls. with_list_closed ls (views before.items)) (ap (unfinished_onto []) e ∙ unfinished_onto-push [] left l))

pub open_not_empty : (lists left : List OpenList) (l : OpenList) → lists ≡ left ++ l ∷ [] → places_of_unclosed (unfinished_onto [] lists) ≡ [] → ⊥
open_not_empty lists left l e none_open =
    let h = ap (λ ls. places_of_unclosed (unfinished_onto [] ls)) e ∙ ap places_of_unclosed (unfinished_onto-push [] left l) in
    let k = sym h ∙ none_open in
    cc
