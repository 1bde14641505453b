-- Variables that are declared without faults have different identifiers, so that each is the one with its own.
use Rattle.std.proofs.Common.{◌≡◌, ℕ, zero, suc, ◌+◌, List, [], ◌∷◌, ◌++◌, Bool, true, false, ◌||◌, Option, Some, None, refl, sym, ap, ◌∙◌, subst, arith, if◌then◌else◌, codes}
use Rattle.std.proofs.lemmas.Bool.{or_parts, or_from, cond-true, cond-false, false_from_ne_true, both_ways}
use Rattle.cp_base.specs.declared.place.Place.{Place}
use Rattle.cp_base.specs.declared.place.Code.TheVariants.{OutOfProfile, BadShape, MesgVar, DuplicateVar}
use Rattle.cp_base.specs.declared.place.Refusal.{Refusal}
use Rattle.cp_lists.specs.Lists.{item_at}
use Rattle.cp_lists.proofs.Appended.{none_before, none_behind, none_of_three}
use Rattle.cp_model.specs.declared.sort.Sort.{Sort}
use Rattle.cp_model.specs.declared.variable.Declaration.{Declaration}
use Rattle.cp_sexpr.specs.Syntax.{Form, symbol, string, number, list}
use Rattle.cp_model.specs.Same.{same_text}
use Rattle.cp_language.specs.declared.words.SortWord.{SortWord}
use Rattle.cp_language.specs.Words.{is_one_of, heads_out_of_profile}
use Rattle.cp_language.specs.Faults.{fault, place_of, items_of}
use Rattle.cp_language.specs.Terms.{variable_from, variable_named, lacks}
use Rattle.cp_language.specs.Roles.{Headed, headed, text_of_symbol, fixed_head_faults, items_behind, front_of, last_form, sort_named, is_of_messages, sort_or_text, last_sort_faults, identifier_faults, identifiers_faults, declared_identifiers, list_items, declaration_faults, declarations_faults, vars_faults, declared_of, declarations_in, declarations_of}
use Rattle.cp_model.proofs.SameTests.{text_is, same_text_itself}

-- The identifiers of the declarations are none of these, and different.
abbrev pub AreDistinct : List (List ℕ) → List Declaration → Type 0
AreDistinct before [] = Unit {0}
AreDistinct before (d ∷ ds) = (is_one_of d.identifier before ≡ false) × AreDistinct (d.identifier ∷ before) ds

-- each of them is none of those before
not_before : (before : List (List ℕ)) (ds : List Declaration) (j : ℕ) (d : Declaration) → AreDistinct before ds → item_at ds j ≡ Some d → is_one_of d.identifier before ≡ false
not_before before [] j d h e = absurd (cc)
not_before before (c ∷ ds) zero d h e = let p : c ≡ d = cc in subst (λ (x : Declaration). is_one_of x.identifier before ≡ false) p h.0
not_before before (c ∷ ds) (suc j) d h e = (or_parts (same_text d.identifier c.identifier) (is_one_of d.identifier before) (not_before (c.identifier ∷ before) ds j d h.1 e)).1

-- the tests of two texts in either order
pub other_way : (s t : List ℕ) → same_text s t ≡ false → same_text t s ≡ false
other_way s t e = false_from_ne_true (same_text t s) (λ p. both_ways (same_text s t) e (subst (λ u. same_text s u ≡ true) (sym (text_is t s p)) (same_text_itself s)))

-- The variable with the identifier of a declaration is that declaration's.
finds_own : (before : List (List ℕ)) (n : ℕ) (ds : List Declaration) (j : ℕ) (d : Declaration) → AreDistinct before ds → item_at ds j ≡ Some d →
    variable_from n ds d.identifier ≡ Some (record { sort = d.sort; number = n + j })
finds_own before n [] j d h e = absurd (cc)
finds_own before n (c ∷ ds) zero d h e =
    let p : c ≡ d = cc in
    let q : n ≡ n + 0 = omega arith in
    subst (λ (x : Declaration). variable_from n (c ∷ ds) x.identifier ≡ Some (record { sort = x.sort; number = n + 0 })) p
    (cond-true (same_text c.identifier c.identifier) (Some (record { sort = c.sort; number = n })) (variable_from (suc n) ds c.identifier) (same_text_itself c.identifier)
    ∙ ap (λ (i : ℕ). Some (record { sort = c.sort; number = i })) q)
finds_own before n (c ∷ ds) (suc j) d h e =
    let differs = other_way d.identifier c.identifier (or_parts (same_text d.identifier c.identifier) (is_one_of d.identifier before) (not_before (c.identifier ∷ before) ds j d h.1 e)).0 in
    let q : suc n + j ≡ n + suc j = omega arith in
    cond-false (same_text c.identifier d.identifier) (Some (record { sort = c.sort; number = n })) (variable_from (suc n) ds d.identifier) differs
    ∙ finds_own (c.identifier ∷ before) (suc n) ds j d h.1 e
    ∙ ap (λ (i : ℕ). Some (record { sort = d.sort; number = i })) q

pub named_itself : (ds : List Declaration) (j : ℕ) (d : Declaration) → AreDistinct [] ds → item_at ds j ≡ Some d → variable_named ds d.identifier ≡ Some (record { sort = d.sort; number = j })
named_itself ds j d h e =
    let q : 0 + j ≡ j = omega arith in
    finds_own [] 0 ds j d h e ∙ ap (λ (i : ℕ). Some (record { sort = d.sort; number = i })) q

-- ---- declarations without faults

-- fewer identifiers before
fewer : (b c : List (List ℕ)) → ((t : List ℕ) → is_one_of t b ≡ false → is_one_of t c ≡ false) → (ds : List Declaration) → AreDistinct b ds → AreDistinct c ds
fewer b c f [] h = tt
fewer b c f (d ∷ ds) h = (
  f d.identifier h.0,
  fewer (d.identifier ∷ b) (d.identifier ∷ c)
      (λ t e. let p = or_parts (same_text t d.identifier) (is_one_of t b) e in or_from (same_text t d.identifier) (is_one_of t c) p.0 (f t p.1)) ds h.1,
)

-- where one of them stands does not matter
moved : (x : List ℕ) (xs ys : List (List ℕ)) (t : List ℕ) → is_one_of t (x ∷ (xs ++ ys)) ≡ false → is_one_of t (xs ++ (x ∷ ys)) ≡ false
moved x [] ys t e = e
moved x (z ∷ xs) ys t e =
    let p = or_parts (same_text t x) (same_text t z || is_one_of t (xs ++ ys)) e in
    let q = or_parts (same_text t z) (is_one_of t (xs ++ ys)) p.1 in
    or_from (same_text t z) (is_one_of t (xs ++ (x ∷ ys))) q.0 (moved x xs ys t (or_from (same_text t x) (is_one_of t (xs ++ ys)) p.0 q.1))

not_duplicate : (b : Bool) (at : Place) → (if b then fault at DuplicateVar else []) ≡ [] → b ≡ false
not_duplicate true at e = absurd (cc)
not_duplicate false at e = refl

new_identifier : (before : List (List ℕ)) (w : SortWord) (f : Form) → identifier_faults before w f ≡ [] → is_one_of (text_of_symbol f) before ≡ false
new_identifier before w (symbol at t) e = not_duplicate (is_one_of t before) at (none_behind (if is_of_messages w then fault at MesgVar else []) (if is_one_of t before then fault at DuplicateVar else []) e)
new_identifier before w (string at t) e = absurd (cc)
new_identifier before w (number at n) e = absurd (cc)
new_identifier before w (list at fs) e = absurd (cc)

distinct_of_sort : (before : List (List ℕ)) (w : SortWord) (s : Sort) (fs : List Form) (rest : List Declaration) → identifiers_faults before w fs ≡ [] →
    AreDistinct (declared_identifiers fs ++ before) rest → AreDistinct before (declared_of s fs ++ rest)
distinct_of_sort before w s [] rest e h = h
distinct_of_sort before w s (f ∷ fs) rest e h = (
  new_identifier before w f (none_before (identifier_faults before w f) (identifiers_faults (text_of_symbol f ∷ before) w fs) e),
  distinct_of_sort (text_of_symbol f ∷ before) w s fs rest (none_behind (identifier_faults before w f) (identifiers_faults (text_of_symbol f ∷ before) w fs) e)
      (fewer (declared_identifiers (f ∷ fs) ++ before) (declared_identifiers fs ++ (text_of_symbol f ∷ before)) (moved (text_of_symbol f) (declared_identifiers fs) before) rest h),
)

-- What a declaration without faults declares has none.
pub no_identifier_faults : (before : List (List ℕ)) (f : Form) → declaration_faults before f ≡ [] → identifiers_faults before (sort_named (last_form (list_items f))) (front_of (list_items f)) ≡ []
no_identifier_faults before (list at fs) e =
    (none_of_three (lacks 2 at (items_of fs)) (identifiers_faults before (sort_named (last_form (items_of fs))) (front_of (items_of fs))) (last_sort_faults (last_form (items_of fs))) e).1
no_identifier_faults before (symbol at t) e = absurd (cc)
no_identifier_faults before (string at t) e = absurd (cc)
no_identifier_faults before (number at n) e = absurd (cc)

declarations_distinct : (before : List (List ℕ)) (fs : List Form) → declarations_faults before fs ≡ [] → AreDistinct before (declarations_in fs)
declarations_distinct before [] e = tt
declarations_distinct before (f ∷ fs) e =
    distinct_of_sort before (sort_named (last_form (list_items f))) (sort_or_text (sort_named (last_form (list_items f)))) (front_of (list_items f)) (declarations_in fs)
    (no_identifier_faults before f (none_before (declaration_faults before f) (declarations_faults (declared_identifiers (front_of (list_items f)) ++ before) fs) e))
    (declarations_distinct (declared_identifiers (front_of (list_items f)) ++ before) fs (none_behind (declaration_faults before f) (declarations_faults (declared_identifiers (front_of (list_items f)) ++ before) fs) e))

inside_headed : (word : List ℕ) (at : Place) (inside : Place → List Form → List Refusal) (h : Headed) (b c : Bool) →
    (if b then inside at h.items else if c then fault at OutOfProfile else fault at BadShape) ≡ [] → inside at h.items ≡ []
inside_headed word at inside h true c e = e
inside_headed word at inside h false true e = absurd (cc)
inside_headed word at inside h false false e = absurd (cc)

-- What stands at a fixed place without faults has items without faults.
pub inside_fixed : (word : List ℕ) (at : Place) (inside : Place → List Form → List Refusal) (o : Option Headed) → fixed_head_faults word at inside o ≡ [] → inside at (items_behind o) ≡ []
inside_fixed word at inside None e = absurd (cc)
inside_fixed word at inside (Some h) e = inside_headed word at inside h (same_text h.head word) (is_one_of h.head heads_out_of_profile) e

-- Variables declared without faults have different identifiers.
pub variables_distinct : (f : Form) → vars_faults f ≡ [] → AreDistinct [] (declarations_of f)
variables_distinct f e = declarations_distinct [] (items_behind (headed f)) (inside_fixed (codes "vars") (place_of f) (λ at ds. declarations_faults [] ds) (headed f) e)
