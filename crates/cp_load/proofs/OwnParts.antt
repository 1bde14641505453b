-- The parts of a problem's own skeleton, one after another.
use Rattle.std.proofs.Common.{◌≡◌, ℕ, zero, suc, ◌+◌, ◌<◌, List, [], ◌∷◌, ◌++◌, length, get_or, drop, map, refl, sym, ap, ◌∙◌, add-one, arith, Bool, true, false, if◌then◌else◌}
use Rattle.std.proofs.lemmas.List.{append_assoc}
use Rattle.cp_lists.proofs.Members.{drop_read}
use Rattle.cp_model.specs.declared.node.OrderPair.{OrderPair}
use Rattle.cp_model.specs.Problem.{numbers_from}
use Rattle.cp_sexpr.specs.Syntax.{Form}
use Rattle.cp_sexpr.specs.View.{view}
use Rattle.cp_sexpr.specs.declared.form.Form as program
use Rattle.cp_language.specs.Roles.{headed, forms_under, item_or_none, items_behind}
use Rattle.cp_language.specs.Problems.{pair_of, pairs_in, pairs_if, is_precedes_item}
use Rattle.cp_load.specs.Acyclic.{pairs_stated}
use Rattle.cp_model.specs.Skeleton.{SkeletonStrand}

-- ---- numbers of strands

numbers-from : (ks : List SkeletonStrand) (k m : ℕ) → k < length ks → numbers_from m (drop k ks) ≡ m ∷ numbers_from (suc m) (drop (suc k) ks)
numbers-from [] k m lt = absurd (omega arith)
numbers-from (x ∷ xs) zero m lt = refl
numbers-from (x ∷ xs) (suc k) m lt = numbers-from xs k m (omega arith)

pub number-taken : (ks : List SkeletonStrand) (k : ℕ) (ns ms all : List ℕ) → k < length ks → ms ≡ ns ++ k ∷ [] → ns ++ numbers_from k (drop k ks) ≡ all
    → ms ++ numbers_from (k + 1) (drop (k + 1) ks) ≡ all
number-taken ks k ns ms all lt g h =
    ap (λ j. ms ++ numbers_from j (drop j ks)) (add-one k) ∙ ap (λ xs. xs ++ numbers_from (suc k) (drop (suc k) ks)) g
    ∙ append_assoc ns (k ∷ []) (numbers_from (suc k) (drop (suc k) ks)) ∙ sym (ap (λ xs. ns ++ xs) (numbers-from ks k k lt)) ∙ h

-- ---- pairs

pairs_in-append : (fs gs : List Form) → pairs_in (fs ++ gs) ≡ pairs_in fs ++ pairs_in gs
pairs_in-append [] gs = refl
pairs_in-append (f ∷ fs) gs = ap (λ ps. pair_of f ++ ps) (pairs_in-append fs gs) ∙ sym (append_assoc (pair_of f) (pairs_in fs) (pairs_in gs))

-- those of the forms behind the heads, item by item
pub pairs-under : (fs : List Form) → pairs_in (forms_under is_precedes_item fs) ≡ pairs_stated fs
pairs-under [] = refl
pairs-under (f ∷ fs) = by_head (is_precedes_item (item_or_none (headed f))) (pairs-under fs)
  where
    by_head : (b : Bool) → pairs_in (forms_under is_precedes_item fs) ≡ pairs_stated fs
        → pairs_in (if b then items_behind (headed f) ++ forms_under is_precedes_item fs else forms_under is_precedes_item fs) ≡ pairs_if b (items_behind (headed f)) ++ pairs_stated fs
    by_head true e = pairs_in-append (items_behind (headed f)) (forms_under is_precedes_item fs) ∙ ap (λ ps. pairs_in (items_behind (headed f)) ++ ps) e
    by_head false e = e

module _ (fs : List program.Form) (k : ℕ) (f : program.Form) (lt : k < length fs) (is : f ≡ get_or fs k f) (ps qs all : List OrderPair)
    (h : ps ++ pairs_in (forms_under is_precedes_item (map view (drop k fs))) ≡ all) where
  under : (b : Bool) → b ≡ is_precedes_item (item_or_none (headed (view f))) → forms_under is_precedes_item (map view (drop k fs))
      ≡ (if b then items_behind (headed (view f)) ++ forms_under is_precedes_item (map view (drop (k + 1) fs)) else forms_under is_precedes_item (map view (drop (k + 1) fs)))
  under b e = ap (λ gs. forms_under is_precedes_item (map view gs)) (drop_read fs k f lt is)
      ∙ ap (λ c. if c then items_behind (headed (view f)) ++ forms_under is_precedes_item (map view (drop (k + 1) fs)) else forms_under is_precedes_item (map view (drop (k + 1) fs))) (sym e)

  pub pairs-taken : true ≡ is_precedes_item (item_or_none (headed (view f))) → qs ≡ ps ++ pairs_in (items_behind (headed (view f)))
      → qs ++ pairs_in (forms_under is_precedes_item (map view (drop (k + 1) fs))) ≡ all
  pairs-taken e g =
      let rest = forms_under is_precedes_item (map view (drop (k + 1) fs)) in
      ap (λ us. us ++ pairs_in rest) g ∙ append_assoc ps (pairs_in (items_behind (headed (view f)))) (pairs_in rest)
      ∙ ap (λ us. ps ++ us) (sym (pairs_in-append (items_behind (headed (view f))) rest))
      ∙ ap (λ us. ps ++ pairs_in us) (sym (under true e)) ∙ h

  pub pairs-left : false ≡ is_precedes_item (item_or_none (headed (view f))) → qs ≡ ps → qs ++ pairs_in (forms_under is_precedes_item (map view (drop (k + 1) fs))) ≡ all
  pairs-left e g =
      ap (λ us. us ++ pairs_in (forms_under is_precedes_item (map view (drop (k + 1) fs)))) g ∙ ap (λ us. ps ++ pairs_in us) (sym (under false e)) ∙ h
