-- A label form as it is printed denotes the same label.
use Rattle.std.proofs.Common.{◌≡◌, ℕ, ◌+◌, ◌<◌, List, [], ◌∷◌, ◌++◌, length, Bool, true, false, refl, sym, ap, ◌∙◌, subst, arith, if◌then◌else◌, ⊎_elim}
use Rattle.std.specs.Prelude.{Option, Some, None, map, codes, drop}
use Rattle.std.proofs.lemmas.Simd.{map-map}
use Rattle.cp_lists.specs.Lists.{item_at, IsIn, here, there}
use Rattle.cp_lists.proofs.Items.{item_below}
use Rattle.cp_lists.proofs.Members.{in_append_left, in_append_right, head_or_behind, at_head}
use Rattle.cp_lists.proofs.Appended.{none_and}
use Rattle.cp_model.specs.Senders.{ArePaired}
use Rattle.cp_model.specs.Term.{variables_of}
use Rattle.cp_model.specs.declared.variable.Variable.{Variable}
use Rattle.cp_model.specs.declared.variable.Declaration.{Declaration}
use Rattle.cp_model.specs.Problem.{variables_of_skeleton, IsDeclared}
use Rattle.cp_model.specs.Pattern.{IsPattern}
use Rattle.cp_model.specs.Same.{has_variable}
use Rattle.cp_model.specs.Tree.{Pattern, Test, Label}
use Rattle.cp_model.specs.declared.tree.Operation.{Operation}
use Rattle.cp_model.specs.declared.tree.Operation.TheVariants.{Problem as by_problem, Collapsed as by_collapse, Contracted as by_contraction, Displaced as by_displacement, AddedStrand as by_added_strand, AddedListener as by_added_listener, Generalised as by_generalising}
use Rattle.cp_model.specs.declared.tree.Mark.{Mark}
use Rattle.cp_model.specs.declared.tree.Mark.TheVariants.{Shape as shape, Dead as dead, Seen as seen, InstanceOf as instance_of, LimitSteps as limit_steps, LimitStrands as limit_strands}
use Rattle.cp_model.specs.declared.node.Node.{Node}
use Rattle.cp_model.proofs.SameTests.{variable_in}
use Rattle.cp_sexpr.specs.Syntax.{Form}
use Rattle.cp_language.specs.Roles.{headed}
use Rattle.cp_language.specs.Printed.{pattern_form, locals_in_order}
use Rattle.cp_language.specs.Report.{variables_of_terms, variables_of_test, variables_but, variables_of_patterns, occurring, node_form, operation_words, test_items, mark_items, label_form}
use Rattle.cp_language.specs.Problems.{number_of, name_in_front, option_node, Problem}
use Rattle.cp_report.specs.Misfits.{each_misfits}
use Rattle.cp_report.specs.Heads.{entries_under, item_with}
use Rattle.cp_report.specs.Spelled.{Scope, pattern_misfits, pattern_of}
use Rattle.cp_report.specs.Skeletons.{node_or_first, scope_of, declarations_of_label}
use Rattle.cp_report.specs.Labels.{operation_word, operation_by, test_of, mark_of, mark_in, label_by, label_of}
use Rattle.cp_report.specs.UpToNames.{renamed, renaming, IsSamePattern, IsSameTest, IsSameLabel}
use Rattle.cp_report.proofs.SpelledTerms.{StandsFor, printed_term_fits}
use Rattle.cp_report.proofs.DistinctNames.{as_many_names}
use Rattle.cp_report.proofs.PrintedVariables.{rank, occurring_from, rank_behind, rank_less, number_occurs, one_to_one}
use Rattle.cp_report.proofs.PrintedMaps.{numbers_same}
use Rattle.cp_report.proofs.PatternLocals.{numbered_locals}
use Rattle.cp_report.proofs.PrintedPatterns.{pattern_fits, pattern_back}
use Rattle.cp_report.proofs.LabelEntries.{parent_is, operation_are, unrealised_are, test_found, escape_are, children_are, mark_found, items_printed}
use Rattle.cp_report.proofs.LabelWords.{of_problem, names, named, number, items}
use Rattle.cp_report.proofs.SkeletonRead.{IsUnder, each_stands}
use Rattle.cp_report.proofs.LabelSkeleton.{PrintedLabel, variables_are, stands, skeleton_back}

nodes_same : (ns : List Node) → map (λ g. node_or_first (option_node (Some g))) (map node_form ns) ≡ ns
nodes_same [] = refl
nodes_same (n ∷ ns) = ap (λ ms. n ∷ ms) (nodes_same ns)

-- ---- operations, parents and marks

operation_same : (o : Operation) (words : List Form) → words ≡ operation_words o → operation_by (operation_word (name_in_front words)) (drop 1 words) ≡ o
operation_same by_problem words e = ap (λ ws. operation_by (operation_word (name_in_front ws)) (drop 1 ws)) e
operation_same (by_collapse ps) words e = ap (λ ws. operation_by (operation_word (name_in_front ws)) (drop 1 ws)) e ∙ ap by_collapse (numbers_same ps)
operation_same (by_contraction n) words e = ap (λ ws. operation_by (operation_word (name_in_front ws)) (drop 1 ws)) e
operation_same (by_displacement n) words e = ap (λ ws. operation_by (operation_word (name_in_front ws)) (drop 1 ws)) e
operation_same (by_added_strand s) words e = ap (λ ws. operation_by (operation_word (name_in_front ws)) (drop 1 ws)) e
operation_same (by_added_listener s) words e = ap (λ ws. operation_by (operation_word (name_in_front ws)) (drop 1 ws)) e
operation_same by_generalising words e = ap (λ ws. operation_by (operation_word (name_in_front ws)) (drop 1 ws)) e

mark_same : (o : Option Mark) → mark_in (mark_items o) ≡ o
mark_same None = refl
mark_same (Some shape) = refl
mark_same (Some dead) = refl
mark_same (Some (seen n)) = refl
mark_same (Some (instance_of n)) = refl
mark_same (Some limit_steps) = refl
mark_same (Some limit_strands) = refl

test_same : (s : Scope) (named : Variable → Form) (number : Variable → ℕ) (o : Option Test) → ((x : Variable) → IsIn x (variables_of_test o) → StandsFor s (named x) (renamed number x))
    → IsSameTest (renaming number) o (test_of s (item_with (codes "test" ∷ []) (test_items named o)))
test_same s named number None h = tt
test_same s named number (Some t) h = (refl, sym (printed_term_fits s named number t.critical h).1)

-- ---- patterns

pub not_among : (locals xs : List Variable) (x : Variable) → IsIn x xs → (IsIn x locals → ⊥) → IsIn x (variables_but locals xs)
not_among locals [] x m other = elim m [ ]
not_among locals (y ∷ xs) x m other = by (has_variable locals y) refl m (λ i. not_among locals xs x i other)
  where
    by : (b : Bool) → has_variable locals y ≡ b → IsIn x (y ∷ xs) → (IsIn x xs → IsIn x (variables_but locals xs)) → IsIn x (if b then variables_but locals xs else y ∷ variables_but locals xs)
    by true e i rest = ⊎_elim (λ same. absurd (other (subst (λ (z : Variable). IsIn z locals) (sym same) (variable_in locals y e)))) rest (head_or_behind i)
    by false e i rest = ⊎_elim at_head (λ j. there (rest j)) (head_or_behind i)

pub of_pattern : (qs : List Pattern) (q : Pattern) (x : Variable) → IsIn q qs → IsIn x (variables_but q.locals (variables_of q.term)) → IsIn x (variables_of_patterns qs)
of_pattern [] q x m i = elim m [ ]
of_pattern (r ∷ qs) q x here i = in_append_left (variables_of_patterns qs) i
of_pattern (r ∷ qs) q x (there m) i = in_append_right (variables_but r.locals (variables_of r.term)) (of_pattern qs q x m i)

pub paired_map : {A B : Type 0} (R : A → B → Type 0) (g : A → B) (xs : List A) → ((x : A) → IsIn x xs → R x (g x)) → ArePaired R xs (map g xs)
paired_map R g [] h = tt
paired_map R g (x ∷ xs) h = (h x here, paired_map R g xs (λ y m. h y (there m)))

declared_below : (ds : List Declaration) (x : Variable) → IsDeclared ds x → x.number < length ds
declared_below ds x h = by (item_at ds x.number) refl h
  where
    by : (o : Option Declaration) → item_at ds x.number ≡ o → IsDeclared ds x → x.number < length ds
    by None e g = let f = g in absurd (cc)
    by (Some d) e g = item_below ds x.number d e

module _ (under : IsUnder) (p : Problem) (l : Label) (h : PrintedLabel p l) (patterns : (q : Pattern) → IsIn q l.escape → IsPattern q) where
  -- ---- test and patterns

  pub in_test : (x : Variable) → IsIn x (variables_of_test l.test) → IsIn x (occurring l)
  in_test x m = in_append_left (variables_of_patterns l.escape) (in_append_right (variables_of_skeleton l.skeleton ++ variables_of_terms l.skeleton.from_problem.values) m)

  in_pattern : (q : Pattern) → IsIn q l.escape → (x : Variable) → IsIn x (variables_of q.term) → (IsIn x q.locals → ⊥) → IsIn x (occurring l)
  in_pattern q m x i other =
      in_append_right (variables_of_skeleton l.skeleton ++ variables_of_terms l.skeleton.from_problem.values ++ variables_of_test l.test) (of_pattern l.escape q x m (not_among q.locals (variables_of q.term) x i other))

  below : (x : Variable) → IsIn x (occurring l) → number l x < length (declarations_of_label (items p l))
  below x m =
      let less : rank (occurring l) x.number < rank (occurring l) (length l.skeleton.variables) = rank_less (occurring l) x.number (length l.skeleton.variables) (number_occurs (occurring l) x m) (declared_below l.skeleton.variables x (h.variables.declared x m)) in
      let z : 0 + length l.skeleton.variables ≡ length l.skeleton.variables = omega arith in
      let all : rank (occurring l) (length l.skeleton.variables) ≡ 0 + length (occurring_from (occurring l) (names p l) 0 l.skeleton.variables) = sym (ap (rank (occurring l)) z) ∙ rank_behind (occurring l) (names p l) 0 l.skeleton.variables in
      let same : length (declarations_of_label (items p l)) ≡ length (occurring_from (occurring l) (names p l) 0 l.skeleton.variables) = ap length (variables_are under p l h) in
      omega (arith, less, all, same)

  -- where a pattern stands, each variable of the label stands for itself
  local_scope_stands : (q : Pattern) → IsIn q l.escape → (x : Variable) → IsIn x (variables_of q.term) → (IsIn x q.locals → ⊥) →
      StandsFor (record { variables = declarations_of_label (items p l); in_pattern = true; locals = numbered_locals 0 (locals_in_order q.locals [] (variables_of q.term)) }) (named p l x) (renamed (number l) x)
  local_scope_stands q m x i other =
      each_stands p l h.variables (of_problem p) (as_many_names p.declared p.variables) h.small h.names_differ
      (record { variables = declarations_of_label (items p l); in_pattern = true; locals = numbered_locals 0 (locals_in_order q.locals [] (variables_of q.term)) }) (variables_are under p l h) x (in_pattern q m x i other)

  one_pattern : (q : Pattern) → IsIn q l.escape → IsSamePattern (number l) q (pattern_of (declarations_of_label (items p l)) (pattern_form (named p l) q))
  one_pattern q m =
      pattern_back (named p l) (λ x. refl) (number l) (declarations_of_label (items p l)) q (patterns q m)
      (local_scope_stands q m)
      (λ x i other. below x (in_pattern q m x i other))
      (λ x y i j a b e. one_to_one (occurring l) x y (in_pattern q m x i a) (in_pattern q m y j b) e)

  each_pattern_fits : (qs : List Pattern) → ((q : Pattern) → IsIn q qs → pattern_misfits (declarations_of_label (items p l)) (pattern_form (named p l) q) ≡ []) → each_misfits (pattern_misfits (declarations_of_label (items p l))) (map (pattern_form (named p l)) qs) ≡ []
  each_pattern_fits [] fit = refl
  each_pattern_fits (q ∷ qs) fit = none_and _ _ (fit q here) (each_pattern_fits qs (λ r m. fit r (there m)))

  -- Patterns as they are printed fit.
  pub patterns_fit : each_misfits (pattern_misfits (declarations_of_label (items p l))) (map (pattern_form (named p l)) l.escape) ≡ []
  patterns_fit = each_pattern_fits l.escape (λ q m. pattern_fits (named p l) (λ x. refl) (number l) (declarations_of_label (items p l)) q (patterns q m) (local_scope_stands q m))

  patterns_same : ArePaired (IsSamePattern (number l)) l.escape (map (pattern_of (declarations_of_label (items p l))) (entries_under (codes "escape") (items p l)))
  patterns_same =
      subst (λ (qs : List Pattern). ArePaired (IsSamePattern (number l)) l.escape qs) (sym (ap (map (pattern_of (declarations_of_label (items p l)))) (escape_are (of_problem p) (names p l) l) ∙ map-map (pattern_of (declarations_of_label (items p l))) (pattern_form (named p l)) l.escape))
      (paired_map (IsSamePattern (number l)) (λ q. pattern_of (declarations_of_label (items p l)) (pattern_form (named p l) q)) l.escape one_pattern)

  -- ---- the label

  label_back : IsSameLabel l (label_by p (items p l))
  label_back = record {
    number = number l;
    one_to_one = one_to_one (occurring l);
    parent = sym (parent_is (of_problem p) (names p l) l);
    operation = sym (operation_same l.operation (entries_under (codes "by") (items p l)) (operation_are (of_problem p) (names p l) l));
    skeleton = skeleton_back under p l h;
    unrealised = sym (ap (map (λ g. node_or_first (option_node (Some g)))) (unrealised_are (of_problem p) (names p l) l) ∙ nodes_same l.unrealised);
    test = subst (λ (o : Option Form). IsSameTest (renaming (number l)) l.test (test_of (scope_of (items p l)) o)) (sym (test_found (of_problem p) (names p l) l))
        (test_same (scope_of (items p l)) (named p l) (number l) l.test (λ x m. stands under p l h x (in_test x m)));
    escape = patterns_same;
    children = sym (ap (map number_of) (children_are (of_problem p) (names p l) l) ∙ numbers_same l.children);
    mark = sym (mark_read ∙ mark_same l.mark);
  }
    where
      mark_read : mark_in (items p l) ≡ mark_in (mark_items l.mark)
      mark_read = ap mark_from_found (mark_found (of_problem p) (names p l) l)
        where
          mark_from_found : Option Form → Option Mark
          mark_from_found None = None
          mark_from_found (Some g) = mark_of (headed g)

  -- A label form as it is printed denotes the same label.
  pub label_form_back : (n : ℕ) → IsSameLabel l (label_of p (label_form (of_problem p) n l))
  label_form_back n = subst (λ (fs : List Form). IsSameLabel l (label_by p fs)) (sym (items_printed (of_problem p) n l)) label_back
