-- A label form item by item.
use Rattle.std.proofs.Common.{◌≡◌, ℕ, List, [], ◌∷◌, ◌++◌, map, codes, sym, ap, ap₂, ◌∙◌, append_assoc}
use Rattle.cp_model.specs.Tree.{Label}
use Rattle.cp_model.specs.Given.{listed}
use Rattle.cp_sexpr.specs.Syntax.{Form}
use Rattle.cp_language.specs.Names.{label_names}
use Rattle.cp_language.specs.Printed.{headed_list, numeral, atom_form, pattern_form}
use Rattle.cp_language.specs.Report.{named_by, occurring, item_unless_empty, parent_items, operation_words, vars_from, strand_form, covering_pairs, unique_form, map_form, node_form, test_items, mark_items, label_form}

-- ---- behind others

two_apart : (x a b : List Form) → x ++ (a ++ b) ≡ x ++ a ++ b
two_apart x a b = sym (append_assoc x a b)

pub three_apart : (x a b c : List Form) → x ++ (a ++ b ++ c) ≡ x ++ a ++ b ++ c
three_apart x a b c = sym (append_assoc x (a ++ b) c) ∙ ap (λ t. t ++ c) (two_apart x a b)

four_apart : (x a b c d : List Form) → x ++ (a ++ b ++ c ++ d) ≡ x ++ a ++ b ++ c ++ d
four_apart x a b c d = sym (append_assoc x (a ++ b ++ c) d) ∙ ap (λ t. t ++ d) (three_apart x a b c)

five_apart : (x a b c d e : List Form) → x ++ (a ++ b ++ c ++ d ++ e) ≡ x ++ a ++ b ++ c ++ d ++ e
five_apart x a b c d e = sym (append_assoc x (a ++ b ++ c ++ d) e) ∙ ap (λ t. t ++ e) (four_apart x a b c d)

six_apart : (x a b c d e f : List Form) → x ++ (a ++ b ++ c ++ d ++ e ++ f) ≡ x ++ a ++ b ++ c ++ d ++ e ++ f
six_apart x a b c d e f = sym (append_assoc x (a ++ b ++ c ++ d ++ e) f) ∙ ap (λ t. t ++ f) (five_apart x a b c d e)

module _ (of_problem : List (List ℕ)) (l : Label) where
  abbrev pub strand_part : List (List ℕ) → List Form → List Form → List Form
  strand_part names vars before = before
      ++ parent_items l.parent
      ++ headed_list (codes "by") (operation_words l.operation) ∷ []
      ++ item_unless_empty (codes "vars") vars
      ++ map (strand_form (named_by names)) l.skeleton.strands

  abbrev pub assumption_part : List (List ℕ) → List Form → List Form
  assumption_part names before = before
      ++ item_unless_empty (codes "precedes") (covering_pairs l.skeleton)
      ++ item_unless_empty (codes "non-orig") (map (atom_form (named_by names)) (listed l.skeleton).non_originating)
      ++ item_unless_empty (codes "pen-non-orig") (map (atom_form (named_by names)) (listed l.skeleton).penetrator_non_originating)
      ++ item_unless_empty (codes "uniq-orig") (map (unique_form (named_by names)) (listed l.skeleton).uniquely_originating)

  abbrev pub result_part : List (List ℕ) → List Form → List Form
  result_part names before = before
      ++ map_form (named_by names) of_problem l.skeleton ∷ []
      ++ item_unless_empty (codes "unrealised") (map node_form l.unrealised)
      ++ test_items (named_by names) l.test
      ++ item_unless_empty (codes "escape") (map (pattern_form (named_by names)) l.escape)
      ++ item_unless_empty (codes "children") (map numeral l.children)
      ++ mark_items l.mark

  -- the same parts, of which each stands for itself
  abbrev pub strand_items : List (List ℕ) → List Form → List Form
  strand_items names vars =
      parent_items l.parent
      ++ headed_list (codes "by") (operation_words l.operation) ∷ []
      ++ item_unless_empty (codes "vars") vars
      ++ map (strand_form (named_by names)) l.skeleton.strands

  abbrev pub assumption_items : List (List ℕ) → List Form
  assumption_items names =
      item_unless_empty (codes "precedes") (covering_pairs l.skeleton)
      ++ item_unless_empty (codes "non-orig") (map (atom_form (named_by names)) (listed l.skeleton).non_originating)
      ++ item_unless_empty (codes "pen-non-orig") (map (atom_form (named_by names)) (listed l.skeleton).penetrator_non_originating)
      ++ item_unless_empty (codes "uniq-orig") (map (unique_form (named_by names)) (listed l.skeleton).uniquely_originating)

  abbrev pub result_items : List (List ℕ) → List Form
  result_items names =
      map_form (named_by names) of_problem l.skeleton ∷ []
      ++ item_unless_empty (codes "unrealised") (map node_form l.unrealised)
      ++ test_items (named_by names) l.test
      ++ item_unless_empty (codes "escape") (map (pattern_form (named_by names)) l.escape)
      ++ item_unless_empty (codes "children") (map numeral l.children)
      ++ mark_items l.mark

  abbrev pub in_parts : ℕ → List (List ℕ) → List Form → List Form
  in_parts n names vars = numeral n ∷ [] ++ strand_items names vars ++ assumption_items names ++ result_items names

  whole_parts : (n : ℕ) (names : List (List ℕ)) (vars : List Form) → in_parts n names vars ≡ result_part names (assumption_part names (strand_part names vars (numeral n ∷ [])))
  whole_parts n names vars =
      let named = named_by names in
      let number : List Form = numeral n ∷ [] in
      let strands : List Form = parent_items l.parent ++ headed_list (codes "by") (operation_words l.operation) ∷ [] ++ item_unless_empty (codes "vars") vars ++ map (strand_form named) l.skeleton.strands in
      let precedes : List Form = item_unless_empty (codes "precedes") (covering_pairs l.skeleton) in
      let non : List Form = item_unless_empty (codes "non-orig") (map (atom_form named) (listed l.skeleton).non_originating) in
      let penetrator : List Form = item_unless_empty (codes "pen-non-orig") (map (atom_form named) (listed l.skeleton).penetrator_non_originating) in
      let unique : List Form = item_unless_empty (codes "uniq-orig") (map (unique_form named) (listed l.skeleton).uniquely_originating) in
      six_apart (number ++ strands ++ (precedes ++ non ++ penetrator ++ unique)) (map_form named of_problem l.skeleton ∷ []) (item_unless_empty (codes "unrealised") (map node_form l.unrealised)) (test_items named l.test)
      (item_unless_empty (codes "escape") (map (pattern_form named) l.escape)) (item_unless_empty (codes "children") (map numeral l.children)) (mark_items l.mark)
      ∙ ap (result_part names) (four_apart (number ++ strands) precedes non penetrator unique
      ∙ ap (assumption_part names) (four_apart number (parent_items l.parent) (headed_list (codes "by") (operation_words l.operation) ∷ []) (item_unless_empty (codes "vars") vars) (map (strand_form named) l.skeleton.strands)))

  pub label_whole : (n : ℕ) (names : List (List ℕ)) (vars : List Form) (f : Form)
      → names ≡ label_names of_problem (occurring l) l.skeleton.variables
      → vars ≡ vars_from (label_names of_problem (occurring l) l.skeleton.variables) (occurring l) 0 l.skeleton.variables
      → f ≡ headed_list (codes "label") (in_parts n names vars)
      → f ≡ label_form of_problem n l
  label_whole n names vars f e v g =
      g ∙ ap (headed_list (codes "label")) (whole_parts n names vars
      ∙ ap₂ (λ (ns : List (List ℕ)) (vs : List Form). result_part ns (assumption_part ns (strand_part ns vs (numeral n ∷ [])))) e v)
