-- What is printed of a tree is proper, where the strings and identifiers of its labels are.
use Rattle.std.proofs.Common.{◌≡◌, ℕ, suc, ◌+◌, List, [], ◌∷◌, ◌++◌, Some, length, true, refl, subst, arith, codes}
use Rattle.std.specs.Prelude.{map}
use Rattle.cp_lists.specs.Lists.{item_at, IsIn, here, there}
use Rattle.cp_lists.proofs.Members.{in_append_left, in_append_right}
use Rattle.cp_model.specs.declared.variable.Variable.{Variable}
use Rattle.cp_model.specs.declared.variable.Declaration.{Declaration}
use Rattle.cp_model.specs.Problem.{variables_of_strands, variables_of_atoms, variables_of_uniques, variables_of_skeleton, IsDeclared}
use Rattle.cp_model.specs.Skeleton.{Skeleton}
use Rattle.cp_model.specs.Given.{given_non, given_penetrator_non, given_uniques, listed}
use Rattle.cp_model.specs.Tree.{Label, Tree, expanded_count}
use Rattle.cp_sexpr.specs.Syntax.{Form, forms_of}
use Rattle.cp_language.specs.Problems.{Problem}
use Rattle.cp_language.specs.Names.{problem_names, has_number, label_names}
use Rattle.cp_language.specs.Printed.{word, numeral, headed_list, atom_form, pattern_form}
use Rattle.cp_language.specs.Report.{variables_of_terms, variables_of_test, variables_of_patterns, occurring, HasItsVariables, item_unless_empty, named_by, node_form, parent_items, operation_words, vars_from, nodes_from, covering_pairs, unique_form, label_items, label_form, labels_from, outcome_words, shape_count, status_form, tree_forms}
use Rattle.cp_printable.specs.Proper.{IsStringText, IsSymbolText, IsProper, AreProper}
use Rattle.cp_printable.specs.Spelled.{AreSpelledDeclarations, IsSpelledLabel}
use Rattle.cp_printable.proofs.ProperWords.{proper_word, AreProperForms, proper_append, proper_map, proper_numbers}
use Rattle.cp_printable.proofs.ProperNames.{AreSymbolTexts, IsNamedAt, proper_problem_names, number_occurs, has_declaration, label_named}
use Rattle.cp_printable.proofs.ProperTerms.{AreNamed}
use Rattle.cp_printable.proofs.ProperStrands.{proper_strands, proper_covering, proper_atoms, proper_uniques}
use Rattle.cp_printable.proofs.ProperItems.{proper_unless_empty, proper_vars, proper_map_form, proper_test, proper_patterns, proper_parent, proper_operation, proper_marks, proper_outcome}

-- ---- labels

module _ (of_problem : List (List ℕ)) (l : Label) (own : AreSymbolTexts of_problem) (declared : (x : Variable) → IsIn x (occurring l) → IsDeclared l.skeleton.variables x)
    (spelled : IsSpelledLabel IsStringText IsSymbolText l) where
  abbrev names : List (List ℕ)
  names = label_names of_problem (occurring l) l.skeleton.variables

  abbrev named : Variable → Form
  named = named_by names

  abbrev k : Skeleton
  k = l.skeleton

  -- each variable that occurs in the label form has a proper name
  all_named : AreNamed named (occurring l)
  all_named x m = let r = has_declaration l.skeleton.variables x (declared x m) in label_named (occurring l) of_problem l.skeleton.variables own spelled.variables x.number r.0 r.1 (number_occurs (occurring l) x m)

  -- the variables of each part of a label form are among these
  in_skeleton : AreNamed named (variables_of_skeleton k)
  in_skeleton x m =
      all_named x (in_append_left (variables_of_patterns l.escape) (in_append_left (variables_of_test l.test) (in_append_left (variables_of_terms k.from_problem.values) m)))

  in_values : AreNamed named (variables_of_terms k.from_problem.values)
  in_values x m = all_named x (in_append_left (variables_of_patterns l.escape) (in_append_left (variables_of_test l.test) (in_append_right (variables_of_skeleton k) m)))

  in_test : AreNamed named (variables_of_test l.test)
  in_test x m = all_named x (in_append_left (variables_of_patterns l.escape) (in_append_right (variables_of_skeleton k ++ variables_of_terms k.from_problem.values) m))

  in_escape : AreNamed named (variables_of_patterns l.escape)
  in_escape x m = all_named x (in_append_right (variables_of_skeleton k ++ variables_of_terms k.from_problem.values ++ variables_of_test l.test) m)

  in_strands : AreNamed named (variables_of_strands k.strands)
  in_strands x m = in_skeleton x (in_append_left _ m)

  in_non : AreNamed named (variables_of_atoms k.assumptions.non_originating)
  in_non x m = in_skeleton x (in_append_right (variables_of_strands k.strands)
      (in_append_left (variables_of_uniques k.assumptions.uniquely_originating) (in_append_left (variables_of_atoms k.assumptions.penetrator_non_originating) m)))

  in_penetrator_non : AreNamed named (variables_of_atoms k.assumptions.penetrator_non_originating)
  in_penetrator_non x m = in_skeleton x (in_append_right (variables_of_strands k.strands)
      (in_append_left (variables_of_uniques k.assumptions.uniquely_originating) (in_append_right (variables_of_atoms k.assumptions.non_originating) m)))

  in_unique : AreNamed named (variables_of_uniques k.assumptions.uniquely_originating)
  in_unique x m = in_skeleton x (in_append_right (variables_of_strands k.strands)
      (in_append_right (variables_of_atoms k.assumptions.non_originating ++ variables_of_atoms k.assumptions.penetrator_non_originating) m))

  -- items of a label form, and then all of them, one behind another
  proper_vars_item : AreProperForms (item_unless_empty (codes "vars") (vars_from names (occurring l) 0 l.skeleton.variables))
  proper_vars_item = proper_unless_empty (codes "vars") (vars_from names (occurring l) 0 l.skeleton.variables) refl (proper_vars names (occurring l) 0 l.skeleton.variables each)
    where
      each : (j : ℕ) (d : Declaration) → item_at l.skeleton.variables j ≡ Some d → has_number (occurring l) (0 + j) ≡ true → IsNamedAt names (0 + j)
      each j d e h = let z : j ≡ 0 + j = omega arith in subst (λ (i : ℕ). has_number (occurring l) i ≡ true → IsNamedAt names i) z (label_named (occurring l) of_problem l.skeleton.variables own spelled.variables j d e) h

  proper_non : AreProperForms (item_unless_empty (codes "non-orig") (map (atom_form named) (listed k).non_originating))
  proper_non =
      proper_unless_empty (codes "non-orig") (map (atom_form named) (listed k).non_originating) refl
      (proper_atoms named k.from_problem.assumptions.non_originating (given_non k.strands) k.assumptions.non_originating in_non spelled.skeleton.assumptions.non)

  proper_penetrator_non : AreProperForms (item_unless_empty (codes "pen-non-orig") (map (atom_form named) (listed k).penetrator_non_originating))
  proper_penetrator_non =
      proper_unless_empty (codes "pen-non-orig") (map (atom_form named) (listed k).penetrator_non_originating) refl
      (proper_atoms named k.from_problem.assumptions.penetrator_non_originating (given_penetrator_non k.strands) k.assumptions.penetrator_non_originating in_penetrator_non spelled.skeleton.assumptions.penetrator_non)

  proper_unique : AreProperForms (item_unless_empty (codes "uniq-orig") (map (unique_form named) (listed k).uniquely_originating))
  proper_unique =
      proper_unless_empty (codes "uniq-orig") (map (unique_form named) (listed k).uniquely_originating) refl
      (proper_uniques named k.from_problem.assumptions.uniquely_originating (given_uniques 0 k.strands) k.assumptions.uniquely_originating in_unique spelled.skeleton.assumptions.unique)

  proper_items : AreProperForms (label_items of_problem names l)
  proper_items =
      let begun = proper_append (parent_items l.parent) (headed_list (codes "by") (operation_words l.operation) ∷ []) (proper_parent l.parent) ((proper_word (codes "by") refl, proper_operation l.operation), tt) in
      let with_vars = proper_append _ _ begun proper_vars_item in
      let with_strands = proper_append _ _ with_vars (proper_strands named k.strands in_strands spelled.skeleton.strands) in
      let with_order = proper_append _ _ with_strands (proper_unless_empty (codes "precedes") (covering_pairs k) refl (proper_covering k.pairs (nodes_from 0 k.strands) (nodes_from 0 k.strands))) in
      let with_non = proper_append _ _ with_order proper_non in
      let with_penetrator_non = proper_append _ _ with_non proper_penetrator_non in
      let with_unique = proper_append _ _ with_penetrator_non proper_unique in
      let with_map = proper_append _ _ with_unique (proper_map_form named of_problem k own in_values spelled.skeleton.values, tt) in
      let with_unrealised = proper_append _ _ with_map (proper_unless_empty (codes "unrealised") (map node_form l.unrealised) refl (proper_map node_form l.unrealised (λ n m. (tt, (tt, tt))))) in
      let with_test = proper_append _ _ with_unrealised (proper_test named l.test in_test spelled.test) in
      let with_escape = proper_append _ _ with_test (proper_unless_empty (codes "escape") (map (pattern_form named) l.escape) refl (proper_patterns named l.escape in_escape spelled.escape)) in
      let with_children = proper_append _ _ with_escape (proper_unless_empty (codes "children") (map numeral l.children) refl (proper_numbers l.children)) in
      proper_append _ _ with_children (proper_marks l.mark)

  pub proper_label : (n : ℕ) → IsProper (label_form of_problem n l)
  proper_label n = (proper_word (codes "label") refl, (tt, proper_items))

proper_labels : (of_problem : List (List ℕ)) (n : ℕ) (ls : List Label) → AreSymbolTexts of_problem → ((l : Label) → IsIn l ls → (x : Variable) → IsIn x (occurring l) → IsDeclared l.skeleton.variables x)
    → ((l : Label) → IsIn l ls → IsSpelledLabel IsStringText IsSymbolText l) → AreProperForms (labels_from of_problem n ls)
proper_labels of_problem n [] own declared spelled = tt
proper_labels of_problem n (l ∷ ls) own declared spelled =
    (proper_label of_problem l own (declared l here) (spelled l here) n, proper_labels of_problem (suc n) ls own (λ m i. declared m (there i)) (λ m i. spelled m (there i)))

-- ---- trees

proper_status : (t : Tree) → IsProper (status_form t)
proper_status t = (
  proper_word (codes "status") refl,
  proper_append (outcome_words t.outcome) (word (codes "labels") ∷ numeral (length t.labels) ∷ word (codes "expanded") ∷ numeral (expanded_count t.labels) ∷ word (codes "shapes") ∷ numeral (shape_count t.labels) ∷ [])
      (proper_outcome t.outcome) (proper_word (codes "labels") refl, (tt, (proper_word (codes "expanded") refl, (tt, (proper_word (codes "shapes") refl, (tt, tt)))))),
)

pub tree_is_proper : (p : Problem) (t : Tree) → AreSpelledDeclarations IsSymbolText p.variables → ((l : Label) → IsIn l t.labels → HasItsVariables p l)
    → ((l : Label) → IsIn l t.labels → IsSpelledLabel IsStringText IsSymbolText l) → AreProper (forms_of (tree_forms p t))
tree_is_proper p t named has spelled =
    proper_append (labels_from (problem_names p.declared p.variables) 0 t.labels) (status_form t ∷ [])
    (proper_labels (problem_names p.declared p.variables) 0 t.labels (proper_problem_names p.declared p.variables named) (λ l m. (has l m).declared) spelled) (proper_status t, tt)
