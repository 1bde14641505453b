-- Texts that grow item by item.
use Rattle.std.proofs.Common.{◌≡◌, ◌==◌, ℕ, Bool, true, false, List, [], ◌∷◌, ◌++◌, length, map, decimal, refl, sym, ap, ◌∙◌, subst, append_assoc, arith}
use Rattle.std.proofs.lemmas.Bool.{eqb-true}
use Rattle.std.proofs.lemmas.List.{append-nil}
use Rattle.cp_base.specs.Growing.{Growth, growth, Grows}
use Rattle.cp_base.proofs.Grown.{grows_then, grows_by_none, grows_not}
use Rattle.cp_language.specs.Printed.{plain_list, headed_list, numeral}
use Rattle.cp_language.specs.Report.{item_unless_empty}
use Rattle.cp_sexpr.specs.Syntax.{Form, forms_of}
use Rattle.cp_sexpr.specs.Pieces.{line_feed, open_parenthesis, close_parenthesis}
use Rattle.cp_sexpr.specs.Spelling.{spelling, top_spelling, first_spelling}
use Rattle.cp_sexpr.specs.ListSpelling.{gap_before, next_by}
use Rattle.cp_print.specs.Spelled.{list_gap, item_text, items_text}

pub true_is_not_false : true ≡ false → ⊥
true_is_not_false h = cc

pub items-append : (is_top : Bool) (fs gs : List Form) → items_text is_top (fs ++ gs) ≡ items_text is_top fs ++ items_text is_top gs
items-append is_top [] gs = refl
items-append is_top (f ∷ fs) gs = ap (λ t. item_text is_top f ++ t) (items-append is_top fs gs) ∙ sym (append_assoc (item_text is_top f) (items_text is_top fs) (items_text is_top gs))

items-next : (is_top : Bool) (fs : List Form) → items_text is_top fs ≡ next_by is_top (forms_of fs)
items-next true [] = refl
items-next true (f ∷ fs) = ap (λ t. item_text true f ++ t) (items-next true fs) ∙ append_assoc (gap_before true f) (spelling f) (next_by true (forms_of fs))
items-next false [] = refl
items-next false (f ∷ fs) = ap (λ t. item_text false f ++ t) (items-next false fs)

module _ {a b c : Growth ℕ} where
  pub then : (xs ys : List ℕ) → Grows a b xs → Grows b c ys → Grows a c (xs ++ ys)
  then xs ys g h = grows_then a b c xs ys g h

  pub then_items : (is_top : Bool) (fs gs : List Form) → Grows a b (items_text is_top fs) → Grows b c (items_text is_top gs) → Grows a c (items_text is_top (fs ++ gs))
  then_items is_top fs gs g h = subst (λ t. Grows a c t) (sym (items-append is_top fs gs)) (grows_then a b c (items_text is_top fs) (items_text is_top gs) g h)

pub one_item : {a b : Growth ℕ} (is_top : Bool) (f : Form) → Grows a b (item_text is_top f) → Grows a b (items_text is_top (f ∷ []))
one_item {a} {b} is_top f g = subst (λ t. Grows a b t) (sym (append-nil (item_text is_top f))) g

pub same_text : {a b : Growth ℕ} {xs ys : List ℕ} → xs ≡ ys → Grows a b xs → Grows a b ys
same_text {a} {b} e g = subst (λ t. Grows a b t) e g

-- memory ran out
pub failed : {a b : Growth ℕ} (text : List ℕ) → b ≡ growth a.items true → Grows a b text
failed {a} {b} text e = subst (λ x. Grows a x text) (sym e) (grows_not a text)

-- ---- lists

module _ {a b c d : Growth ℕ} (f : Form) (fs : List Form) where
  -- a list behind nothing
  pub whole_list : Grows a b (open_parenthesis ∷ spelling f) → Grows b c (items_text false fs) → Grows c d (close_parenthesis ∷ []) → Grows a d (spelling (plain_list (f ∷ fs)))
  whole_list g h i =
      subst (λ t. Grows a d (open_parenthesis ∷ ((spelling f ++ t) ++ close_parenthesis ∷ []))) (items-next false fs)
      (grows_then a c d _ (close_parenthesis ∷ []) (grows_then a b c (open_parenthesis ∷ spelling f) (items_text false fs) g h) i)

  -- a list behind other items
  pub list_item : (is_top : Bool) → Grows a b (list_gap is_top ++ (open_parenthesis ∷ spelling f)) → Grows b c (items_text false fs) → Grows c d (close_parenthesis ∷ []) → Grows a d (item_text is_top (plain_list (f ∷ fs)))
  list_item true g h i =
      subst (λ t. Grows a d (list_gap true ++ (open_parenthesis ∷ ((spelling f ++ t) ++ close_parenthesis ∷ [])))) (items-next false fs)
      (grows_then a c d _ (close_parenthesis ∷ []) (grows_then a b c (list_gap true ++ (open_parenthesis ∷ spelling f)) (items_text false fs) g h) i)
  list_item false g h i =
      subst (λ t. Grows a d (list_gap false ++ (open_parenthesis ∷ ((spelling f ++ t) ++ close_parenthesis ∷ [])))) (items-next false fs)
      (grows_then a c d _ (close_parenthesis ∷ []) (grows_then a b c (list_gap false ++ (open_parenthesis ∷ spelling f)) (items_text false fs) g h) i)

  -- a top form
  pub top_list : Grows a b (open_parenthesis ∷ spelling f) → Grows b c (items_text true fs) → Grows c d (close_parenthesis ∷ line_feed ∷ []) → Grows a d (top_spelling (plain_list (f ∷ fs)))
  top_list g h i =
      let body = open_parenthesis ∷ (spelling f ++ items_text true fs) in
      let made : Grows a d (body ++ close_parenthesis ∷ line_feed ∷ []) = grows_then a c d body _ (grows_then a b c (open_parenthesis ∷ spelling f) (items_text true fs) g h) i in
      let text : top_spelling (plain_list (f ∷ fs)) ≡ body ++ close_parenthesis ∷ line_feed ∷ []
      = ap (λ t. (open_parenthesis ∷ ((spelling f ++ t) ++ close_parenthesis ∷ [])) ++ line_feed ∷ []) (sym (items-next true fs)) ∙ append_assoc body (close_parenthesis ∷ []) (line_feed ∷ []) in
      subst (λ t. Grows a d t) (sym text) made

-- a list of any items, of which the first stands behind nothing
pub any_list : {a b c d : Growth ℕ} (fs : List Form) → Grows a b (list_gap false ++ open_parenthesis ∷ []) → Grows b c (first_spelling (forms_of fs)) → Grows c d (close_parenthesis ∷ []) → Grows a d (item_text false (plain_list fs))
any_list {a} {b} {c} {d} fs g h i = grows_then a c d _ (close_parenthesis ∷ []) (grows_then a b c (list_gap false ++ open_parenthesis ∷ []) (first_spelling (forms_of fs)) g h) i

-- ---- an item that is left out if it would list nothing

module _ {X : Type 0} (head : List ℕ) (form : X → Form) where
  pub some_listed : {a b : Growth ℕ} (xs : List X) (empty : Bool) → empty ≡ (length xs == 0) → empty ≡ false → Grows a b (item_text true (headed_list head (map form xs))) → Grows a b (items_text true (item_unless_empty head (map form xs)))
  some_listed [] empty e h g = absurd (true_is_not_false (sym e ∙ h))
  some_listed (x ∷ xs) empty e h g = one_item true (headed_list head (map form (x ∷ xs))) g

  pub none_listed : (a : Growth ℕ) (xs : List X) (empty : Bool) → empty ≡ (length xs == 0) → empty ≡ true → Grows a a (items_text true (item_unless_empty head (map form xs)))
  none_listed a [] empty e h = grows_by_none a
  none_listed a (x ∷ xs) empty e h = absurd (let none = eqb-true (length (x ∷ xs)) 0 (sym e ∙ h) in omega (arith, none))

-- ---- loops

-- These items were appended, and the rest is still to come.
abbrev pub ItemsLeft : Bool → Growth ℕ → Growth ℕ → List Form → List Form → Type 0
ItemsLeft is_top old now rest whole = (done : List Form) × Grows old now (items_text is_top done) × (whole ≡ done ++ rest)

module _ (is_top : Bool) where
  pub items_begin : (a : Growth ℕ) (whole : List Form) → ItemsLeft is_top a a whole whole
  items_begin a whole = ([], grows_by_none a, refl)

  pub items_go_on : {a b c : Growth ℕ} (f : Form) (before rest whole : List Form) → ItemsLeft is_top a b before whole → before ≡ f ∷ rest → Grows b c (item_text is_top f) → ItemsLeft is_top a c rest whole
  items_go_on f before rest whole l e g = (
    l.0 ++ f ∷ [],
    then_items is_top l.0 (f ∷ []) l.1 (one_item is_top f g),
    l.2 ∙ ap (λ t. l.0 ++ t) e ∙ sym (append_assoc l.0 (f ∷ []) rest),
  )

  pub items_same : {a b : Growth ℕ} (before rest whole : List Form) → ItemsLeft is_top a b before whole → before ≡ rest → ItemsLeft is_top a b rest whole
  items_same before rest whole l e = (l.0, l.1, l.2 ∙ ap (λ t. l.0 ++ t) e)

  pub items_end : {a b : Growth ℕ} (rest whole : List Form) → ItemsLeft is_top a b rest whole → rest ≡ [] → Grows a b (items_text is_top whole)
  items_end {a} {b} rest whole l e = subst (λ fs. Grows a b (items_text is_top fs)) (sym (l.2 ∙ ap (λ t. l.0 ++ t) e ∙ append-nil l.0)) l.1

-- ---- numbers, of which the first stands behind nothing

pub first_numbers : (ns : List ℕ) (n : ℕ) (ms : List ℕ) → ns ≡ n ∷ ms → decimal n ++ items_text false (map numeral ms) ≡ first_spelling (forms_of (map numeral ns))
first_numbers ns n ms e = ap (λ t. decimal n ++ t) (items-next false (map numeral ms)) ∙ sym (ap (λ ks. first_spelling (forms_of (map numeral ks))) e)

pub no_numbers : (a : Growth ℕ) (ns : List ℕ) → length ns ≡ 0 → Grows a a (first_spelling (forms_of (map numeral ns)))
no_numbers a [] e = grows_by_none a
no_numbers a (n ∷ ns) e = absurd (omega arith)
