-- The sorts of lists with a head.
use Rattle.std.proofs.Common.{◌≡◌, ◌<◌, ◌≤◌, List, [], ◌∷◌, length, get_or, map, sym, ap, ◌∙◌, arith}
use Rattle.std.specs.Prelude.{Some, None}
use Rattle.cp_model.specs.declared.variable.Declaration.{Declaration}
use Rattle.cp_sexpr.specs.Syntax.{Form, forms_of}
use Rattle.cp_sexpr.specs.View.{view}
use Rattle.cp_sexpr.specs.declared.form.Form as program
use Rattle.cp_language.specs.declared.words.TermHead.TheVariants.{Cat as cat}
use Rattle.cp_language.specs.Words.{term_head}
use Rattle.cp_language.specs.Roles.{Headed, headed}
use Rattle.cp_language.specs.declared.sorts.TermSort.TheVariants.{All as of_all}
use Rattle.cp_language.specs.Terms.{sort_of, sorts_of, sort_of_cat, sort_by_head}
use Rattle.cp_scope.proofs.Views.{headed_is}

pub the_only : {A : Type 0} (xs : List A) (x : A) → 1 ≤ length xs → length xs < 2 → x ≡ get_or xs 0 x → xs ≡ x ∷ []
the_only [] x l u e = absurd (omega arith)
the_only (y ∷ []) x l u e = ap (λ z. z ∷ []) (sym e)
the_only (y ∷ z ∷ ys) x l u e = absurd (omega arith)

module _ (ds : List Declaration) (f : Form) (h : Headed) (e : Some h ≡ headed f) (c : cat ≡ term_head h.head) where
  cat_sort : sort_of ds f ≡ sort_of_cat (sorts_of ds (forms_of h.items))
  cat_sort =
      ap (sort_of ds) (headed_is f h (sym e)).whole ∙ ap (λ t. sort_by_head t (sorts_of ds (forms_of h.items))) (sym c)

  pub no_item_sort : (items : List program.Form) → map view items ≡ h.items → length items < 1 → None ≡ sort_of ds f
  no_item_sort [] g l = sym (cat_sort ∙ ap (λ fs. sort_of_cat (sorts_of ds (forms_of fs))) (sym g))
  no_item_sort (x ∷ xs) g l = absurd (omega arith)

  pub one_item_sort : (items : List program.Form) (x : program.Form) → map view items ≡ h.items → 1 ≤ length items → length items < 2 → x ≡ get_or items 0 x → sort_of ds (view x) ≡ sort_of ds f
  one_item_sort items x g l u i =
      sym (cat_sort ∙ ap (λ fs. sort_of_cat (sorts_of ds (forms_of fs))) (sym g ∙ ap (map view) (the_only items x l u i)))

  pub more_items_sort : (items : List program.Form) → map view items ≡ h.items → 2 ≤ length items → Some of_all ≡ sort_of ds f
  more_items_sort [] g l = absurd (omega arith)
  more_items_sort (x ∷ []) g l = absurd (omega arith)
  more_items_sort (x ∷ y ∷ ys) g l = sym (cat_sort ∙ ap (λ fs. sort_of_cat (sorts_of ds (forms_of fs))) (sym g))
