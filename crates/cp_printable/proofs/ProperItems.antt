-- What is printed of variables, of the map, the test, the escape set, the operation and the mark of a label is proper.
use Rattle.std.proofs.Common.{◌≡◌, ℕ, suc, ◌+◌, List, [], ◌∷◌, Bool, true, false, refl, subst, arith, if◌then◌else◌, codes}
use Rattle.std.specs.Prelude.{Option, Some, None, map}
use Rattle.cp_lists.specs.Lists.{item_at, IsIn, here, there}
use Rattle.cp_lists.proofs.Members.{in_append_left, in_append_right}
use Rattle.cp_model.specs.Term.{Term, variables_of}
use Rattle.cp_model.specs.declared.variable.Variable.{Variable}
use Rattle.cp_model.specs.declared.variable.Declaration.{Declaration}
use Rattle.cp_model.specs.Skeleton.{Skeleton}
use Rattle.cp_model.specs.Tree.{Pattern, Test}
use Rattle.cp_model.specs.declared.tree.Operation.{Operation}
use Rattle.cp_model.specs.declared.tree.Operation.TheVariants.{Problem as by_problem, Collapsed as by_collapse, Contracted as by_contraction, Displaced as by_displacement, AddedStrand as by_added_strand, AddedListener as by_added_listener, Generalised as by_generalising}
use Rattle.cp_model.specs.declared.tree.Mark.{Mark}
use Rattle.cp_model.specs.declared.tree.Mark.TheVariants.{Shape as shape, Dead as dead, Seen as seen, InstanceOf as instance_of, LimitSteps as limit_steps, LimitStrands as limit_strands}
use Rattle.cp_model.specs.declared.tree.Outcome.{Outcome}
use Rattle.cp_model.specs.declared.tree.Outcome.TheVariants.{Complete as complete, LimitSteps as at_step_limit, LimitStrands as at_strand_limit}
use Rattle.cp_sexpr.specs.Syntax.{Form}
use Rattle.cp_language.specs.Names.{has_number, sort_text}
use Rattle.cp_language.specs.Printed.{word, plain_list, pattern_form}
use Rattle.cp_language.specs.Report.{variables_of_terms, variables_of_test, variables_but, variables_of_patterns, item_unless_empty, name_or_none, parent_items, operation_words, vars_from, value_forms, map_form, test_items, mark_words, mark_items, outcome_words}
use Rattle.cp_printable.specs.Proper.{IsStringText, IsProper}
use Rattle.cp_printable.specs.Spelled.{IsSpelledTerm}
use Rattle.cp_printable.proofs.ProperWords.{is_word, proper_word, AreProperForms, proper_map, proper_numbers}
use Rattle.cp_printable.proofs.ProperNames.{AreSymbolTexts, IsNamedAt}
use Rattle.cp_printable.proofs.ProperTerms.{AreNamed, proper_term}
use Rattle.cp_printable.proofs.ProperPatterns.{proper_sort, proper_pattern}

-- An item with a proper head, unless it would list nothing.
pub proper_unless_empty : (head : List ℕ) (fs : List Form) → is_word head ≡ true → AreProperForms fs → AreProperForms (item_unless_empty head fs)
proper_unless_empty head [] e p = tt
proper_unless_empty head (f ∷ fs) e p = ((proper_word head e, p), tt)

-- ---- variables

-- The variables that occur are printed by their names and sorts.
pub proper_vars : (names : List (List ℕ)) (occurs : List Variable) (n : ℕ) (ds : List Declaration)
    → ((j : ℕ) (d : Declaration) → item_at ds j ≡ Some d → has_number occurs (n + j) ≡ true → IsNamedAt names (n + j)) → AreProperForms (vars_from names occurs n ds)
proper_vars names occurs n [] each = tt
proper_vars names occurs n (d ∷ ds) each = by (has_number occurs n) refl (proper_vars names occurs (suc n) ds further)
  where
    at_first : n + 0 ≡ n
    at_first = omega arith

    first : has_number occurs n ≡ true → IsNamedAt names n
    first e = subst (λ (k : ℕ). has_number occurs k ≡ true → IsNamedAt names k) at_first (each 0 d refl) e

    further : (j : ℕ) (c : Declaration) → item_at ds j ≡ Some c → has_number occurs (suc n + j) ≡ true → IsNamedAt names (suc n + j)
    further j c at = let z : n + suc j ≡ suc n + j = omega arith in subst (λ (k : ℕ). has_number occurs k ≡ true → IsNamedAt names k) z (each (suc j) c at)

    by : (b : Bool) → has_number occurs n ≡ b → AreProperForms (vars_from names occurs (suc n) ds)
        → AreProperForms (if b then plain_list (word (name_or_none (item_at names n)) ∷ word (sort_text d.sort) ∷ []) ∷ vars_from names occurs (suc n) ds else vars_from names occurs (suc n) ds)
    by true e rest = ((first e, (proper_sort d.sort, tt)), rest)
    by false e rest = rest

-- ---- map, test and escape

module _ (named : Variable → Form) where
  proper_values : (names : List (List ℕ)) (ts : List Term) → AreSymbolTexts names → AreNamed named (variables_of_terms ts) → ((t : Term) → IsIn t ts → IsSpelledTerm IsStringText t)
      → AreProperForms (value_forms named names ts)
  proper_values [] ts own h s = tt
  proper_values (x ∷ xs) [] own h s = tt
  proper_values (x ∷ xs) (t ∷ ts) own h s = (
    (own x here, (proper_term named t (λ y m. h y (in_append_left (variables_of_terms ts) m)) (s t here), tt)),
    proper_values xs ts (λ u m. own u (there m)) (λ y m. h y (in_append_right (variables_of t) m)) (λ u m. s u (there m)),
  )

  pub proper_map_form : (names : List (List ℕ)) (k : Skeleton) → AreSymbolTexts names → AreNamed named (variables_of_terms k.from_problem.values) → ((t : Term) → IsIn t k.from_problem.values → IsSpelledTerm IsStringText t)
      → IsProper (map_form named names k)
  proper_map_form names k own h s = (proper_word (codes "map") refl, (proper_numbers k.from_problem.strands, proper_values names k.from_problem.values own h s))

  pub proper_test : (o : Option Test) → AreNamed named (variables_of_test o) → ((t : Test) → o ≡ Some t → IsSpelledTerm IsStringText t.critical) → AreProperForms (test_items named o)
  proper_test None h s = tt
  proper_test (Some t) h s = ((proper_word (codes "test") refl, ((tt, (tt, tt)), (proper_term named t.critical h (s t refl), tt))), tt)

  in_patterns : (ps : List Pattern) (p : Pattern) (x : Variable) → IsIn p ps → IsIn x (variables_but p.locals (variables_of p.term)) → IsIn x (variables_of_patterns ps)
  in_patterns [] p x m i = elim m [ ]
  in_patterns (q ∷ ps) p x here i = in_append_left (variables_of_patterns ps) i
  in_patterns (q ∷ ps) p x (there m) i = in_append_right (variables_but q.locals (variables_of q.term)) (in_patterns ps p x m i)

  pub proper_patterns : (ps : List Pattern) → AreNamed named (variables_of_patterns ps) → ((p : Pattern) → IsIn p ps → IsSpelledTerm IsStringText p.term) → AreProperForms (map (pattern_form named) ps)
  proper_patterns ps h s = proper_map (pattern_form named) ps (λ p m. proper_pattern named p (λ x i. h x (in_patterns ps p x m i)) (s p m))

-- ---- words and numbers

pub proper_parent : (o : Option ℕ) → AreProperForms (parent_items o)
proper_parent None = tt
proper_parent (Some n) = ((proper_word (codes "parent") refl, (tt, tt)), tt)

pub proper_operation : (o : Operation) → AreProperForms (operation_words o)
proper_operation by_problem = (proper_word (codes "problem") refl, tt)
proper_operation (by_collapse ps) = (proper_word (codes "collapsed") refl, proper_numbers ps)
proper_operation (by_contraction n) = (proper_word (codes "contracted") refl, (tt, (tt, tt)))
proper_operation (by_displacement n) = (proper_word (codes "displaced") refl, (tt, (tt, tt)))
proper_operation (by_added_strand s) = (proper_word (codes "added-strand") refl, (tt, tt))
proper_operation (by_added_listener s) = (proper_word (codes "added-listener") refl, (tt, tt))
proper_operation by_generalising = (proper_word (codes "generalised") refl, tt)

proper_mark : (m : Mark) → AreProperForms (mark_words m)
proper_mark shape = (proper_word (codes "shape") refl, tt)
proper_mark dead = (proper_word (codes "dead") refl, tt)
proper_mark (seen n) = (proper_word (codes "seen") refl, (tt, tt))
proper_mark (instance_of n) = (proper_word (codes "instance-of") refl, (tt, tt))
proper_mark limit_steps = (proper_word (codes "limit") refl, (proper_word (codes "steps") refl, tt))
proper_mark limit_strands = (proper_word (codes "limit") refl, (proper_word (codes "strands") refl, tt))

pub proper_marks : (o : Option Mark) → AreProperForms (mark_items o)
proper_marks None = tt
proper_marks (Some m) = (proper_mark m, tt)

pub proper_outcome : (o : Outcome) → AreProperForms (outcome_words o)
proper_outcome complete = (proper_word (codes "complete") refl, tt)
proper_outcome at_step_limit = (proper_word (codes "limit") refl, (proper_word (codes "steps") refl, tt))
proper_outcome at_strand_limit = (proper_word (codes "limit") refl, (proper_word (codes "strands") refl, tt))
