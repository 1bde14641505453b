-- The flagged variables of a label and of an instance, one by one.
use Rattle.std.proofs.Common.{◌≡◌, ℕ, suc, ◌+◌, ◌<◌, ◌≤◌, List, [], ◌∷◌, ◌++◌, length, get_or, drop, Bool, true, false, ◌||◌, if◌then◌else◌, codes, refl, sym, ap, ◌∙◌, add-one}
use Rattle.cp_base.specs.Growing.{Growth, Grows}
use Rattle.cp_base.proofs.Grown.{grows_by_none}
use Rattle.cp_lists.specs.Lists.{item_at}
use Rattle.std.proofs.lemmas.List.{drop_all}
use Rattle.cp_lists.proofs.Fronts.{some_item}
use Rattle.cp_lists.proofs.Members.{drop_read}
use Rattle.cp_model.specs.Term.{apply_to, variable_term, Substitution}
use Rattle.cp_model.specs.Same.{has_variable}
use Rattle.cp_model.specs.declared.variable.Variable.{Variable}
use Rattle.cp_sexpr.specs.Syntax.{Form}
use Rattle.cp_model.specs.declared.variable.Declaration.{Declaration}
use Rattle.cp_language.specs.Names.{sort_text}
use Rattle.cp_language.specs.Printed.{term_form, variable, word, plain_list, headed_list}
use Rattle.cp_language.specs.Report.{name_or_none, item_unless_empty}
use Rattle.cp_print.specs.MarkedForms.{vars_by, has_vars, maplets_by}
use Rattle.cp_print.specs.Spelled.{item_text, items_text}
use Rattle.cp_print.proofs.SpelledItems.{one_item, true_is_not_false}

-- a variable without a flag is passed over
module _ (flags : List Bool) (n : ℕ) (ds : List Declaration) (lt : n < length ds) (e : get_or flags n false ≡ false) where
  pub var_skipped : (names : List (List ℕ)) → vars_by names flags n (drop n ds) ≡ vars_by names flags (n + 1) (drop (n + 1) ds)
  var_skipped names =
      let i = some_item ds n lt in
      let x : Form = plain_list (word (name_or_none (item_at names n)) ∷ word (sort_text i.0.sort) ∷ []) in
      let rest : List Form = vars_by names flags (n + 1) (drop (suc n) ds) in
      ap (λ (es : List Declaration). vars_by names flags n es) i.1 ∙ ap (λ b. if b then x ∷ rest else rest) e ∙ ap (λ k. vars_by names flags (n + 1) (drop k ds)) (sym (add-one n))

  pub flag_skipped : has_vars flags (n + 1) (drop (n + 1) ds) ≡ has_vars flags n (drop n ds)
  flag_skipped =
      let i = some_item ds n lt in
      let rest : Bool = has_vars flags (n + 1) (drop (suc n) ds) in
      ap (λ k. has_vars flags (n + 1) (drop k ds)) (add-one n) ∙ sym (ap (λ (es : List Declaration). has_vars flags n es) i.1 ∙ ap (λ b. b || rest) e)

-- one of these variables is flagged
pub flag_found : (flags : List Bool) (n : ℕ) (ds : List Declaration) → n < length ds → get_or flags n false ≡ true → has_vars flags n (drop n ds) ≡ true
flag_found flags n ds lt e =
    let i = some_item ds n lt in
    ap (λ (es : List Declaration). has_vars flags n es) i.1 ∙ ap (λ b. b || has_vars flags (n + 1) (drop (suc n) ds)) e

pub no_flags : (flags : List Bool) (n : ℕ) (ds : List Declaration) → length ds ≤ n → has_vars flags n (drop n ds) ≡ false
no_flags flags n ds h = ap (λ (es : List Declaration). has_vars flags n es) (drop_all n ds h)

-- there are items exactly where one is flagged
abbrev pub has_items : List Form → Bool
has_items [] = false
has_items (f ∷ fs) = true

some_vars : (names : List (List ℕ)) (flags : List Bool) (n : ℕ) (ds : List Declaration) → has_items (vars_by names flags n ds) ≡ has_vars flags n ds
some_vars names flags n [] = refl
some_vars names flags n (d ∷ ds) = by_flag (get_or flags n false) (some_vars names flags (n + 1) ds)
  where
    by_flag : (b : Bool) → has_items (vars_by names flags (n + 1) ds) ≡ has_vars flags (n + 1) ds
        → has_items (if b then plain_list (word (name_or_none (item_at names n)) ∷ word (sort_text d.sort) ∷ []) ∷ vars_by names flags (n + 1) ds else vars_by names flags (n + 1) ds) ≡ (b || has_vars flags (n + 1) ds)
    by_flag true e = refl
    by_flag false e = e

module _ (head : List ℕ) where
  items_listed : {a b : Growth ℕ} (fs : List Form) → has_items fs ≡ true → Grows a b (item_text true (headed_list head fs)) → Grows a b (items_text true (item_unless_empty head fs))
  items_listed [] h g = absurd (true_is_not_false (sym h))
  items_listed (f ∷ fs) h g = one_item true (headed_list head (f ∷ fs)) g

  no_items_listed : (a : Growth ℕ) (fs : List Form) → has_items fs ≡ false → Grows a a (items_text true (item_unless_empty head fs))
  no_items_listed a [] h = grows_by_none a
  no_items_listed a (f ∷ fs) h = absurd (true_is_not_false h)

module _ (names : List (List ℕ)) (flags : List Bool) (ds : List Declaration) where
  pub vars_listed : {a b : Growth ℕ} → has_vars flags 0 ds ≡ true → Grows a b (item_text true (headed_list (codes "vars") (vars_by names flags 0 ds)))
      → Grows a b (items_text true (item_unless_empty (codes "vars") (vars_by names flags 0 ds)))
  vars_listed h g = items_listed (codes "vars") (vars_by names flags 0 ds) (some_vars names flags 0 ds ∙ h) g

  pub no_vars_listed : (a : Growth ℕ) → has_vars flags 0 ds ≡ false → Grows a a (items_text true (item_unless_empty (codes "vars") (vars_by names flags 0 ds)))
  no_vars_listed a h = no_items_listed (codes "vars") a (vars_by names flags 0 ds) (some_vars names flags 0 ds ∙ h)

-- a flagged variable, and those behind it
module _ (flags : List Bool) (n : ℕ) (ds : List Declaration) (lt : n < length ds) (e : get_or flags n false ≡ true) (d : Declaration) (is : d ≡ get_or ds n d) where
  pub var_taken : (names : List (List ℕ)) (name : List ℕ) → name ≡ name_or_none (item_at names n)
      → vars_by names flags n (drop n ds) ≡ (plain_list (word name ∷ word (sort_text d.sort) ∷ []) ∷ []) ++ vars_by names flags (n + 1) (drop (n + 1) ds)
  var_taken names name h =
      let x : Form = plain_list (word (name_or_none (item_at names n)) ∷ word (sort_text d.sort) ∷ []) in
      let rest : List Form = vars_by names flags (n + 1) (drop (n + 1) ds) in
      ap (λ (es : List Declaration). vars_by names flags n es) (drop_read ds n d lt is) ∙ ap (λ b. if b then x ∷ rest else rest) e
      ∙ ap (λ (t : List ℕ). plain_list (word t ∷ word (sort_text d.sort) ∷ []) ∷ rest) (sym h)

-- a variable of a role, and those behind it
module _ (prefix : List Variable) (n : ℕ) (ds : List Declaration) (lt : n < length ds) (d : Declaration) (is : d ≡ get_or ds n d) (named : Variable → Form) (terms : Substitution) where
  abbrev pub maplet : Form
  maplet = plain_list (word d.identifier ∷ term_form named (apply_to terms (variable_term (variable d.sort n))) ∷ [])

  abbrev pub maplets_behind : List Form
  maplets_behind = maplets_by named prefix terms (n + 1) (drop (n + 1) ds)

  maplet_at : (b : Bool) → has_variable prefix (variable d.sort n) ≡ b → maplets_by named prefix terms n (drop n ds) ≡ (if b then maplet ∷ maplets_behind else maplets_behind)
  maplet_at b e = ap (λ (es : List Declaration). maplets_by named prefix terms n es) (drop_read ds n d lt is) ∙ ap (λ b. if b then maplet ∷ maplets_behind else maplets_behind) e

  pub maplet_skipped : has_variable prefix (variable d.sort n) ≡ false → maplets_by named prefix terms n (drop n ds) ≡ maplets_behind
  maplet_skipped e = maplet_at false e

  pub maplet_taken : has_variable prefix (variable d.sort n) ≡ true → maplets_by named prefix terms n (drop n ds) ≡ maplet ∷ maplets_behind
  maplet_taken e = maplet_at true e

-- at the end no variable is left
pub no_vars : (names : List (List ℕ)) (flags : List Bool) (n : ℕ) (ds : List Declaration) → length ds ≤ n → vars_by names flags n (drop n ds) ≡ []
no_vars names flags n ds h = ap (λ (es : List Declaration). vars_by names flags n es) (drop_all n ds h)

pub no_maplets : (named : Variable → Form) (prefix : List Variable) (terms : Substitution) (n : ℕ) (ds : List Declaration) → length ds ≤ n → maplets_by named prefix terms n (drop n ds) ≡ []
no_maplets named prefix terms n ds h = ap (λ (es : List Declaration). maplets_by named prefix terms n es) (drop_all n ds h)
