-- Where items stand does not matter: they are found by their heads, and their identifiers, numbers, nodes, variables and
-- maplets are the same and fit as well.
use Rattle.std.proofs.Common.{◌≡◌, ℕ, List, [], ◌∷◌, true, false, refl, ◌∙◌, ap}
use Rattle.std.specs.Prelude.{Bool, Option, Some, None, map, not, codes, option_map, ◌&&◌, if◌then◌else◌}
use Rattle.cp_model.specs.declared.variable.Declaration.{Declaration}
use Rattle.cp_model.specs.Same.{same_text}
use Rattle.cp_sexpr.specs.Syntax.{Form, symbol, string, number, list}
use Rattle.cp_sexpr.specs.Pieces.{start}
use Rattle.cp_sexpr.specs.ReadBack.{unplaced}
use Rattle.cp_language.specs.Words.{is_one_of}
use Rattle.cp_language.specs.Terms.{variable_named}
use Rattle.cp_language.specs.Roles.{text_of_symbol, sort_named, sort_or_text, list_items}
use Rattle.cp_language.specs.Problems.{is_known, first_form, second_form, number_of, name_in_front, node_of_numbers, node_of, option_node}
use Rattle.cp_report.specs.Misfits.{entries_misfits, symbol_misfits}
use Rattle.cp_report.specs.Heads.{has_head, item_with, items_with, entries_or_none, entries_under}
use Rattle.cp_report.specs.Spelled.{Scope, plain_scope, names_sort, value_misfits}
use Rattle.cp_report.specs.Skeletons.{identifier_of, vars_misfits, declaration_of, scope_of, maplet_misfits, maplets_misfits, are_mapped, mapping_misfits, term_or_tag, value_mapped, values_mapped}
use Rattle.cp_report.proofs.Moved.{at_start, all_moved, IsMovedInside, both, unless_moved, test_moved, items_moved, head_moved, entries_moved, entries_misfits_moved, symbol_moved, list_moved}
use Rattle.cp_report.proofs.MovedTerms.{value_misfits_moved, term_in_moved}

-- ---- items by their heads

pub map_moved : {A : Type 0} (g : Form → A) → ((f : Form) → g (unplaced f) ≡ g f) → (fs : List Form) → map g (all_moved fs) ≡ map g fs
map_moved g m [] = refl
map_moved g m (f ∷ fs) = ap (λ x. x ∷ map g (all_moved fs)) (m f) ∙ ap (λ xs. g f ∷ xs) (map_moved g m fs)

pub item_moved : (heads : List (List ℕ)) (fs : List Form) → item_with heads (all_moved fs) ≡ option_map unplaced (item_with heads fs)
item_moved heads [] = refl
item_moved heads (f ∷ fs) =
    ap (λ b. if b then Some (unplaced f) else item_with heads (all_moved fs)) (head_moved heads f) ∙ by_test (item_moved heads fs) (has_head heads f)
  where
    by_test : item_with heads (all_moved fs) ≡ option_map unplaced (item_with heads fs) → (b : Bool) →
        (if b then Some (unplaced f) else item_with heads (all_moved fs)) ≡ option_map unplaced (if b then Some f else item_with heads fs)
    by_test rest true = refl
    by_test rest false = rest

pub items_with_moved : (heads : List (List ℕ)) (fs : List Form) → items_with heads (all_moved fs) ≡ all_moved (items_with heads fs)
items_with_moved heads [] = refl
items_with_moved heads (f ∷ fs) =
    ap (λ b. if b then unplaced f ∷ items_with heads (all_moved fs) else items_with heads (all_moved fs)) (head_moved heads f) ∙ by_test (items_with_moved heads fs) (has_head heads f)
  where
    by_test : items_with heads (all_moved fs) ≡ all_moved (items_with heads fs) → (b : Bool) →
        (if b then unplaced f ∷ items_with heads (all_moved fs) else items_with heads (all_moved fs)) ≡ all_moved (if b then f ∷ items_with heads fs else items_with heads fs)
    by_test rest true = ap (λ gs. unplaced f ∷ gs) rest
    by_test rest false = rest

entries_or_none_moved : (o : Option Form) → entries_or_none (option_map unplaced o) ≡ all_moved (entries_or_none o)
entries_or_none_moved None = refl
entries_or_none_moved (Some f) = entries_moved f

pub entries_under_moved : (head : List ℕ) (items : List Form) → entries_under head (all_moved items) ≡ all_moved (entries_under head items)
entries_under_moved head items = ap entries_or_none (item_moved (head ∷ []) items) ∙ entries_or_none_moved (item_with (head ∷ []) items)

-- ---- entries

pub list_items_moved : (f : Form) → list_items (unplaced f) ≡ all_moved (list_items f)
list_items_moved (symbol at t) = refl
list_items_moved (string at t) = refl
list_items_moved (number at n) = refl
list_items_moved (list at fs) = items_moved fs

pub text_moved : (f : Form) → text_of_symbol (unplaced f) ≡ text_of_symbol f
text_moved (symbol at t) = refl
text_moved (string at t) = refl
text_moved (number at n) = refl
text_moved (list at fs) = refl

pub number_of_moved : (f : Form) → number_of (unplaced f) ≡ number_of f
number_of_moved (symbol at t) = refl
number_of_moved (string at t) = refl
number_of_moved (number at n) = refl
number_of_moved (list at fs) = refl

pub first_moved : (fs : List Form) → first_form (all_moved fs) ≡ option_map unplaced (first_form fs)
first_moved [] = refl
first_moved (f ∷ fs) = refl

pub second_moved : (fs : List Form) → second_form (all_moved fs) ≡ option_map unplaced (second_form fs)
second_moved [] = refl
second_moved (f ∷ fs) = first_moved fs

pub name_in_front_moved : (fs : List Form) → name_in_front (all_moved fs) ≡ name_in_front fs
name_in_front_moved [] = refl
name_in_front_moved (f ∷ fs) = text_moved f

pub identifier_moved : (f : Form) → identifier_of (unplaced f) ≡ identifier_of f
identifier_moved f = ap name_in_front (list_items_moved f) ∙ name_in_front_moved (list_items f)

-- ---- variables

pub sort_named_moved : (o : Option Form) → sort_named (option_map unplaced o) ≡ sort_named o
sort_named_moved None = refl
sort_named_moved (Some (symbol at t)) = refl
sort_named_moved (Some (string at t)) = refl
sort_named_moved (Some (number at n)) = refl
sort_named_moved (Some (list at fs)) = refl

declaration_moved : (f : Form) → declaration_of (unplaced f) ≡ declaration_of f
declaration_moved f =
    let s = ap sort_named (ap second_form (list_items_moved f) ∙ second_moved (list_items f)) ∙ sort_named_moved (second_form (list_items f)) in
    let e = identifier_moved f in λ i. record { identifier = e i; sort = sort_or_text (s i) }

pub scope_moved : (items : List Form) → scope_of (all_moved items) ≡ scope_of items
scope_moved items = ap plain_scope (ap (map declaration_of) (entries_under_moved (codes "vars") items) ∙ map_moved declaration_of declaration_moved (entries_under (codes "vars") items))

pub vars_moved : (before : List (List ℕ)) (fs : List Form) → vars_misfits before (all_moved fs) ≡ at_start (vars_misfits before fs)
vars_moved before [] = refl
vars_moved before (f ∷ fs) =
    both _ _ _ _
    (list_moved (entries_misfits (symbol_misfits (λ t. not (is_one_of t before)) ∷ symbol_misfits names_sort ∷ []))
    (λ at gs. entries_misfits_moved (symbol_misfits (λ t. not (is_one_of t before)) ∷ symbol_misfits names_sort ∷ []) at gs (symbol_moved (λ t. not (is_one_of t before)), (symbol_moved names_sort, tt))) f)
    (ap (λ x. vars_misfits (x ∷ before) (all_moved fs)) (identifier_moved f) ∙ vars_moved (identifier_of f ∷ before) fs)

-- ---- maplets

maplet_moved : (s : Scope) (wanted : List Declaration) (before : List (List ℕ)) → IsMovedInside (maplet_misfits s wanted before)
maplet_moved s wanted before at fs =
    ap (λ x. entries_misfits (symbol_misfits (λ t. is_known (variable_named wanted t) && not (is_one_of t before)) ∷ value_misfits s (variable_named wanted x) ∷ []) start (all_moved fs)) (name_in_front_moved fs)
    ∙ entries_misfits_moved (symbol_misfits (λ t. is_known (variable_named wanted t) && not (is_one_of t before)) ∷ value_misfits s (variable_named wanted (name_in_front fs)) ∷ []) at fs
    (symbol_moved (λ t. is_known (variable_named wanted t) && not (is_one_of t before)), (value_misfits_moved s (variable_named wanted (name_in_front fs)), tt))

maplets_moved : (s : Scope) (wanted : List Declaration) (before : List (List ℕ)) (fs : List Form) → maplets_misfits s wanted before (all_moved fs) ≡ at_start (maplets_misfits s wanted before fs)
maplets_moved s wanted before [] = refl
maplets_moved s wanted before (f ∷ fs) =
    both _ _ _ _ (list_moved (maplet_misfits s wanted before) (maplet_moved s wanted before) f)
    (ap (λ x. maplets_misfits s wanted (x ∷ before) (all_moved fs)) (identifier_moved f) ∙ maplets_moved s wanted (identifier_of f ∷ before) fs)

pub mapping_moved : (s : Scope) (wanted : List Declaration) → IsMovedInside (mapping_misfits s wanted)
mapping_moved s wanted at fs =
    unless_moved _ _ _ _ (maplets_moved s wanted [] fs)
    (test_moved (are_mapped wanted (map identifier_of (all_moved fs))) (are_mapped wanted (map identifier_of fs)) at (ap (are_mapped wanted) (map_moved identifier_of identifier_moved fs)))

pub term_or_tag_moved : (s : Scope) (o : Option Form) → term_or_tag s (option_map unplaced o) ≡ term_or_tag s o
term_or_tag_moved s None = refl
term_or_tag_moved s (Some f) = term_in_moved s f

value_mapped_moved : (s : Scope) (t : List ℕ) (fs : List Form) → value_mapped s t (all_moved fs) ≡ value_mapped s t fs
value_mapped_moved s t [] = refl
value_mapped_moved s t (f ∷ fs) =
    ap (λ x. if same_text t x then term_or_tag s (second_form (list_items (unplaced f))) else value_mapped s t (all_moved fs)) (identifier_moved f)
    ∙ ap (λ u. if same_text t (identifier_of f) then u else value_mapped s t (all_moved fs))
    (ap (λ gs. term_or_tag s (second_form gs)) (list_items_moved f) ∙ ap (term_or_tag s) (second_moved (list_items f)) ∙ term_or_tag_moved s (second_form (list_items f)))
    ∙ ap (λ u. if same_text t (identifier_of f) then term_or_tag s (second_form (list_items f)) else u) (value_mapped_moved s t fs)

pub values_moved : (s : Scope) (fs : List Form) (ds : List Declaration) → values_mapped s (all_moved fs) ds ≡ values_mapped s fs ds
values_moved s fs [] = refl
values_moved s fs (d ∷ ds) = ap (λ t. t ∷ values_mapped s (all_moved fs) ds) (value_mapped_moved s d.identifier fs) ∙ ap (λ ts. value_mapped s d.identifier fs ∷ ts) (values_moved s fs ds)

-- ---- nodes

numbers_moved : (a b : Option Form) → node_of_numbers (option_map unplaced a) (option_map unplaced b) ≡ node_of_numbers a b
numbers_moved None b = refl
numbers_moved (Some (symbol at t)) b = refl
numbers_moved (Some (string at t)) b = refl
numbers_moved (Some (list at fs)) b = refl
numbers_moved (Some (number at n)) None = refl
numbers_moved (Some (number at n)) (Some (symbol p t)) = refl
numbers_moved (Some (number at n)) (Some (string p t)) = refl
numbers_moved (Some (number at n)) (Some (number p m)) = refl
numbers_moved (Some (number at n)) (Some (list p fs)) = refl

pub node_moved : (f : Form) → node_of (unplaced f) ≡ node_of f
node_moved f =
    ap (λ gs. node_of_numbers (first_form gs) (second_form gs)) (list_items_moved f)
    ∙ ap (λ o. node_of_numbers o (second_form (all_moved (list_items f)))) (first_moved (list_items f))
    ∙ ap (node_of_numbers (option_map unplaced (first_form (list_items f)))) (second_moved (list_items f))
    ∙ numbers_moved (first_form (list_items f)) (second_form (list_items f))

pub option_node_moved : (o : Option Form) → option_node (option_map unplaced o) ≡ option_node o
option_node_moved None = refl
option_node_moved (Some f) = node_moved f
