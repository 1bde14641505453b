-- Each item of a label form as it is printed is found by its head, with what it lists.
use Rattle.std.proofs.Common.{◌≡◌, ℕ, List, [], ◌∷◌, true, refl, ap, ◌∙◌}
use Rattle.std.specs.Prelude.{Option, Some, None, map, codes}
use Rattle.cp_model.specs.declared.variable.Variable.{Variable}
use Rattle.cp_model.specs.Tree.{Label}
use Rattle.cp_sexpr.specs.Syntax.{Form}
use Rattle.cp_language.specs.Names.{label_names}
use Rattle.cp_language.specs.Printed.{numeral, headed_list, pattern_form}
use Rattle.cp_language.specs.Report.{occurring, named_by, node_form, parent_items, operation_words, map_form, test_items, mark_items, item_unless_empty, label_items, label_form}
use Rattle.cp_report.specs.Heads.{item_with, entries_or_none, entries_under, mark_heads}
use Rattle.cp_report.specs.Labels.{number_in_front, numbers_in, behind_number, items_of_label, stated_parent, stated_children}
use Rattle.cp_report.proofs.PrintedStrands.{items_back}
use Rattle.cp_report.proofs.LabelItems.{Group, forms_for, is_alone, label_groups, label_in_groups, label_groups_are, item_found, listed_under}

parent_same : (o : Option ℕ) → number_in_front (entries_under (codes "parent") (parent_items o)) ≡ o
parent_same None = refl
parent_same (Some n) = refl

numbers_in_same : (ns : List ℕ) → numbers_in (map numeral ns) ≡ ns
numbers_in_same [] = refl
numbers_in_same (n ∷ ns) = ap (λ ms. n ∷ ms) (numbers_in_same ns)

module _ (of_problem names : List (List ℕ)) (l : Label) where
  abbrev named : Variable → Form
  named = named_by names

  abbrev items : List Form
  items = label_items of_problem names l

  abbrev groups : List Group
  groups = label_groups of_problem names l

  -- An item of the label is that of its group.
  pub found : (heads : List (List ℕ)) → is_alone heads groups ≡ true → item_with heads items ≡ item_with heads (forms_for heads groups)
  found heads alone = ap (item_with heads) (label_in_groups of_problem names l) ∙ item_found heads groups (label_groups_are of_problem names l) alone

  -- ---- items

  pub parent_found : item_with (codes "parent" ∷ []) items ≡ item_with (codes "parent" ∷ []) (parent_items l.parent)
  parent_found = found (codes "parent" ∷ []) refl

  pub by_found : item_with (codes "by" ∷ []) items ≡ Some (headed_list (codes "by") (operation_words l.operation))
  by_found = found (codes "by" ∷ []) refl

  pub map_found : item_with (codes "map" ∷ []) items ≡ Some (map_form named of_problem l.skeleton)
  map_found = found (codes "map" ∷ []) refl

  pub unrealised_found : item_with (codes "unrealised" ∷ []) items ≡ item_with (codes "unrealised" ∷ []) (item_unless_empty (codes "unrealised") (map node_form l.unrealised))
  unrealised_found = found (codes "unrealised" ∷ []) refl

  pub test_found : item_with (codes "test" ∷ []) items ≡ item_with (codes "test" ∷ []) (test_items named l.test)
  test_found = found (codes "test" ∷ []) refl

  pub escape_found : item_with (codes "escape" ∷ []) items ≡ item_with (codes "escape" ∷ []) (item_unless_empty (codes "escape") (map (pattern_form named) l.escape))
  escape_found = found (codes "escape" ∷ []) refl

  pub children_found : item_with (codes "children" ∷ []) items ≡ item_with (codes "children" ∷ []) (item_unless_empty (codes "children") (map numeral l.children))
  children_found = found (codes "children" ∷ []) refl

  pub mark_found : item_with mark_heads items ≡ item_with mark_heads (mark_items l.mark)
  mark_found = found mark_heads refl

  -- ---- what they list

  -- Under a head stands what its group lists, whether the item is left out or not.
  pub are_listed : (head : List ℕ) (fs : List Form) → is_alone (head ∷ []) groups ≡ true → forms_for (head ∷ []) groups ≡ item_unless_empty head fs → entries_under head items ≡ fs
  are_listed head fs alone is = ap entries_or_none (found (head ∷ []) alone ∙ ap (item_with (head ∷ [])) is) ∙ listed_under head fs

  pub operation_are : entries_under (codes "by") items ≡ operation_words l.operation
  operation_are = ap entries_or_none by_found ∙ items_back (operation_words l.operation)

  pub unrealised_are : entries_under (codes "unrealised") items ≡ map node_form l.unrealised
  unrealised_are = are_listed (codes "unrealised") (map node_form l.unrealised) refl refl

  pub escape_are : entries_under (codes "escape") items ≡ map (pattern_form named) l.escape
  escape_are = are_listed (codes "escape") (map (pattern_form named) l.escape) refl refl

  pub children_are : entries_under (codes "children") items ≡ map numeral l.children
  children_are = are_listed (codes "children") (map numeral l.children) refl refl

  pub parent_is : number_in_front (entries_under (codes "parent") items) ≡ l.parent
  parent_is = ap (λ o. number_in_front (entries_or_none o)) parent_found ∙ parent_same l.parent

-- ---- label forms

module _ (of_problem : List (List ℕ)) (n : ℕ) (l : Label) where
  abbrev names_here : List (List ℕ)
  names_here = label_names of_problem (occurring l) l.skeleton.variables

  -- The items of a label form are those that are printed.
  pub items_printed : items_of_label (label_form of_problem n l) ≡ label_items of_problem names_here l
  items_printed = ap behind_number (items_back (numeral n ∷ label_items of_problem names_here l))

  pub parent_printed : stated_parent (label_form of_problem n l) ≡ l.parent
  parent_printed = ap (λ fs. number_in_front (entries_under (codes "parent") fs)) items_printed ∙ parent_is of_problem names_here l

  pub children_printed : stated_children (label_form of_problem n l) ≡ l.children
  children_printed = ap (λ fs. numbers_in (entries_under (codes "children") fs)) items_printed ∙ ap numbers_in (children_are of_problem names_here l) ∙ numbers_in_same l.children
