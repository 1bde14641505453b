-- A label form as it is printed fits.
use Rattle.std.proofs.Common.{◌≡◌, ◌≢◌, ℕ, suc, ◌<◌, List, [], ◌∷◌, ◌++◌, length, true, false, refl, ap, ◌∙◌, subst, arith}
use Rattle.std.specs.Prelude.{Option, Some, None, map, drop, not, codes, ◌&&◌, ◌||◌, ◌==◌}
use Rattle.std.proofs.lemmas.Bool.{eq-eqb, eqb-true, or_from, false_from_ne_true, or_right}
use Rattle.std.proofs.Math.Nat.{suc_inj}
use Rattle.cp_base.specs.declared.place.Place.{Place}
use Rattle.cp_lists.specs.Lists.{item_at, IsIn, here, there}
use Rattle.cp_lists.proofs.Items.{place_of}
use Rattle.cp_lists.proofs.Appended.{none_and}
use Rattle.cp_lists.proofs.Mapped.{nothing_mapped}
use Rattle.cp_model.specs.declared.variable.Variable.{Variable}
use Rattle.cp_model.specs.Skeleton.{SkeletonStrand, term_event_at, IsNodeOf, Skeleton}
use Rattle.cp_model.specs.Tree.{Test, Label}
use Rattle.cp_model.specs.declared.tree.Operation.{Operation}
use Rattle.cp_model.specs.declared.tree.Operation.TheVariants.{Problem as by_problem, Collapsed as by_collapse, Contracted as by_contraction, Displaced as by_displacement, AddedStrand as by_added_strand, AddedListener as by_added_listener, Generalised as by_generalising}
use Rattle.cp_model.specs.declared.tree.Mark.{Mark}
use Rattle.cp_model.specs.declared.tree.Mark.TheVariants.{Shape as shape, Dead as dead, Seen as seen, InstanceOf as instance_of, LimitSteps as limit_steps, LimitStrands as limit_strands}
use Rattle.cp_model.specs.declared.node.Node.{Node}
use Rattle.cp_sexpr.specs.Syntax.{Form, forms_of}
use Rattle.cp_language.specs.Faults.{items_of}
use Rattle.cp_language.specs.Printed.{numeral, no_place, pattern_form}
use Rattle.cp_language.specs.Report.{variables_of_test, node_form, parent_items, operation_words, test_items, mark_items, item_unless_empty, label_form}
use Rattle.cp_language.specs.Problems.{is_known, name_in_front, Problem}
use Rattle.cp_report.specs.Misfits.{misfit_unless, unless_misfit, where_fitting, first_or, lacking, each_misfits}
use Rattle.cp_report.specs.Heads.{item_with, entries_under, optional_misfits, mark_heads, lines_of_label, order_misfits}
use Rattle.cp_report.specs.Spelled.{Scope, pattern_misfits}
use Rattle.cp_report.specs.Skeletons.{declarations_of_label, scope_of, node_misfits, strands_of_label, around_strands_misfits}
use Rattle.cp_report.specs.Labels.{is_among, has_child_in, has_parent_in, is_label_in, parent_misfits, children_misfits, operation_word, is_operation, makes_root, operation_misfits, operation_place_misfits, word_of_label, unrealised_misfits, test_misfits, escape_misfits, has_children, has_mark, mark_misfits, no_parent_misfits, wants_parent, missing_misfits, about_strands_misfits, items_misfits, numbered_misfits, label_misfits}
use Rattle.cp_report.specs.FittingTrees.{IsOperationOn, IsTestOn, HasMarkOrChildren, IsParentOf, FitsIn}
use Rattle.cp_report.specs.UpToNames.{renamed, renaming}
use Rattle.cp_report.proofs.SpelledTerms.{StandsFor, printed_term_fits}
use Rattle.cp_report.proofs.CoveringSkeletons.{there_too}
use Rattle.cp_report.proofs.PrintedStrands.{items_back}
use Rattle.cp_report.proofs.LabelItems.{label_items_in_order, front_in_order}
use Rattle.cp_report.proofs.LabelEntries.{parent_found, by_found, map_found, unrealised_found, test_found, escape_found, children_found, mark_found, operation_are}
use Rattle.cp_report.proofs.LabelWords.{of_problem, names, named, number, items}
use Rattle.cp_report.proofs.SkeletonRead.{IsUnder}
use Rattle.cp_report.proofs.LabelSkeleton.{PrintedLabel, stands, strands_same, kinds}
use Rattle.cp_report.proofs.SkeletonFits.{AppliesWhole, paired_length, optional_fits, vars_fit, all_strands, around_fits}
use Rattle.cp_report.proofs.LabelRead.{in_test, patterns_fit}
use Rattle.cp_report.proofs.NumbersFit.{node_fits, nodes_fit, word_for, operation_fits, IsThere, operation_there}

-- ---- numbers of labels

-- The tree has these label forms, as far as a label's numbers tell: the parent names it as a child, its children name it as
-- their parent, and a label that its mark names is there.
pub record AgreesWith (tree : Option (List Form)) (i : ℕ) (l : Label) : Type 0 where
  pub parent : (n : ℕ) → l.parent ≡ Some n → has_child_in tree i n ≡ true
  pub children : (n : ℕ) → IsIn n l.children → has_parent_in tree i n ≡ true
  pub seen_there : (n : ℕ) → l.mark ≡ Some (seen n) → is_label_in tree n ≡ true
  pub instance_there : (n : ℕ) → l.mark ≡ Some (instance_of n) → is_label_in tree n ≡ true

parent_fits : (tree : Option (List Form)) (i : ℕ) (o : Option ℕ) → ((n : ℕ) → o ≡ Some n → has_child_in tree i n ≡ true) → optional_misfits (parent_misfits tree i) (item_with (codes "parent" ∷ []) (parent_items o)) ≡ []
parent_fits tree i None h = refl
parent_fits tree i (Some n) h = ap (λ b. misfit_unless b no_place ++ []) (h n refl)

-- Children of which none stands twice, nor among those before.
abbrev AreOnce : List ℕ → List ℕ → Type 0
AreOnce before [] = Unit {0}
AreOnce before (n ∷ ns) = (is_among n before ≡ false) × AreOnce (n ∷ before) ns

are_once : (before ns : List ℕ) → ((a b n : ℕ) → item_at ns a ≡ Some n → item_at ns b ≡ Some n → a ≡ b) → ((n : ℕ) → IsIn n ns → is_among n before ≡ false) → AreOnce before ns
are_once before [] once new = tt
are_once before (m ∷ ns) once new = (
  new m here,
  are_once (m ∷ before) ns (λ a b n e f. suc_inj (once (suc a) (suc b) n e f)) (λ n i. or_from (m == n) (is_among n before) (other n i) (new n (there i))),
)
  where
    other : (n : ℕ) → IsIn n ns → (m == n) ≡ false
    other n i = false_from_ne_true (m == n) (λ e.
        let same : m ≡ n = eqb-true m n e in
        let r = place_of i in
        let q : 0 ≡ suc r.0 = once 0 (suc r.0) n (ap Some same) r.1 in
        absurd (omega (arith, q)))

children_fit : (tree : Option (List Form)) (i : ℕ) (before ns : List ℕ) → ((n : ℕ) → IsIn n ns → has_parent_in tree i n ≡ true) → AreOnce before ns → children_misfits tree i before (map numeral ns) ≡ []
children_fit tree i before [] h once = refl
children_fit tree i before (n ∷ ns) h once =
    none_and _ _
    (ap (λ b. misfit_unless (b && not (is_among n before)) no_place) (h n here) ∙ ap (λ b. misfit_unless (not b) no_place) once.0)
    (children_fit tree i (n ∷ before) ns (λ m j. h m (there j)) once.1)

mark_fits : (tree : Option (List Form)) (items : List Form) (m : Mark) → has_children items ≡ false → ((n : ℕ) → Some m ≡ Some (seen n) → is_label_in tree n ≡ true) → ((n : ℕ) → Some m ≡ Some (instance_of n) → is_label_in tree n ≡ true)
    → mark_misfits tree items (item_with mark_heads (mark_items (Some m))) ≡ []
mark_fits tree items shape c a b = ap (λ t. misfit_unless (not t) no_place ++ []) c
mark_fits tree items dead c a b = ap (λ t. misfit_unless (not t) no_place ++ []) c
mark_fits tree items (seen n) c a b = ap (λ t. misfit_unless (not t) no_place ++ (misfit_unless (is_label_in tree n) no_place ++ [])) c ∙ ap (λ t. misfit_unless t no_place ++ []) (a n refl)
mark_fits tree items (instance_of n) c a b = ap (λ t. misfit_unless (not t) no_place ++ (misfit_unless (is_label_in tree n) no_place ++ [])) c ∙ ap (λ t. misfit_unless t no_place ++ []) (b n refl)
mark_fits tree items limit_steps c a b = ap (λ t. misfit_unless (not t) no_place ++ []) c
mark_fits tree items limit_strands c a b = ap (λ t. misfit_unless (not t) no_place ++ []) c

-- ---- what is there

children_known : (ns : List ℕ) → ns ≢ [] → is_known (item_with (codes "children" ∷ []) (item_unless_empty (codes "children") (map numeral ns))) ≡ true
children_known [] h = absurd (h refl)
children_known (n ∷ ns) h = refl

no_children_known : (ns : List ℕ) → ns ≡ [] → is_known (item_with (codes "children" ∷ []) (item_unless_empty (codes "children") (map numeral ns))) ≡ false
no_children_known [] h = refl
no_children_known (n ∷ ns) h = absurd (cc)

mark_known : (m : Mark) → is_known (item_with mark_heads (mark_items (Some m))) ≡ true
mark_known (seen n) = refl
mark_known _ = refl

-- a label with a parent is no root
not_root : (labels : List Label) (i : ℕ) (o : Operation) (n : ℕ) → IsParentOf labels i o (Some n) → makes_root (word_for o) ≡ false
not_root labels i by_problem n h = let e = h in absurd (cc)
not_root labels i (by_collapse ps) n h = let e = h in absurd (cc)
not_root labels i (by_contraction m) n h = refl
not_root labels i (by_displacement m) n h = refl
not_root labels i (by_added_strand s) n h = refl
not_root labels i (by_added_listener s) n h = refl
not_root labels i by_generalising n h = refl

-- a label with no parent is a root
is_root : (labels : List Label) (i : ℕ) (o : Operation) → IsParentOf labels i o None → (is_operation (word_for o) && not (makes_root (word_for o))) ≡ false
is_root labels i by_problem h = refl
is_root labels i (by_collapse ps) h = refl
is_root labels i (by_contraction m) h = absurd h
is_root labels i (by_displacement m) h = absurd h
is_root labels i (by_added_strand s) h = absurd h
is_root labels i (by_added_listener s) h = absurd h
is_root labels i by_generalising h = absurd h

named_there : (p : Problem) (k : Skeleton) (strands : List SkeletonStrand) (o : Operation) → ((n : Node) → IsNodeOf k.strands n → IsNodeOf strands n) → ((s : ℕ) → s < length k.strands → s < length strands) → IsOperationOn p k o → IsThere strands o
named_there p k strands by_problem node strand h = tt
named_there p k strands (by_collapse ps) node strand h = tt
named_there p k strands (by_contraction n) node strand h = node n h
named_there p k strands (by_displacement n) node strand h = node n h
named_there p k strands (by_added_strand s) node strand h = strand s h
named_there p k strands (by_added_listener s) node strand h = strand s h
named_there p k strands by_generalising node strand h = tt

test_fits : (s : Scope) (strands : List SkeletonStrand) (named : Variable → Form) (number : Variable → ℕ) (o : Option Test) → ((t : Test) → o ≡ Some t → IsNodeOf strands t.node)
    → ((x : Variable) → IsIn x (variables_of_test o) → StandsFor s (named x) (renamed number x)) → optional_misfits (test_misfits s strands) (item_with (codes "test" ∷ []) (test_items named o)) ≡ []
test_fits s strands named number None node h = refl
test_fits s strands named number (Some t) node h = none_and _ _ (node_fits strands t.node (node t refl)) (none_and _ _ (printed_term_fits s named number t.critical h).0 refl)

test_known : (named : Variable → Form) (o : Option Test) → o ≢ None → is_known (item_with (codes "test" ∷ []) (test_items named o)) ≡ true
test_known named None h = absurd (h refl)
test_known named (Some t) h = refl

escape_fits : (items : List Form) (fs : List Form) → (fs ≢ [] → is_known (item_with (codes "test" ∷ []) items) ≡ true) → each_misfits (pattern_misfits (declarations_of_label items)) fs ≡ []
    → optional_misfits (escape_misfits items) (item_with (codes "escape" ∷ []) (item_unless_empty (codes "escape") fs)) ≡ []
escape_fits items [] test e = refl
escape_fits items (f ∷ fs) test e =
    ap (λ b. misfit_unless b no_place ++ lacking 1 no_place (items_of (forms_of (f ∷ fs))) ++ each_misfits (pattern_misfits (declarations_of_label items)) (items_of (forms_of (f ∷ fs)))) (test (λ q. absurd (cc)))
    ∙ ap (each_misfits (pattern_misfits (declarations_of_label items))) (items_back (f ∷ fs)) ∙ e

module _ (under : IsUnder) (whole : AppliesWhole) (p : Problem) (l : Label) (h : PrintedLabel p l) (labels : List Label) (i : ℕ) (fit : FitsIn p labels i l) (tree : Option (List Form)) (agrees : AgreesWith tree i l) where
  abbrev strands : List SkeletonStrand
  strands = strands_of_label p (items p l)

  node_there : (n : Node) → IsNodeOf l.skeleton.strands n → IsNodeOf strands n
  node_there n e = there_too (term_event_at l.skeleton.strands n) (term_event_at strands n) (kinds under p l h n) e

  strand_there : (s : ℕ) → s < length l.skeleton.strands → s < length strands
  strand_there s less = subst (λ (m : ℕ). s < m) (paired_length (renaming (number l)) l.skeleton.strands strands (strands_same under p l h)) less

  word_is : word_of_label (items p l) ≡ word_for l.operation
  word_is = ap (λ fs. operation_word (name_in_front fs)) (operation_are (of_problem p) (names p l) l)

  -- ---- items

  operation_item : optional_misfits (operation_misfits p) (item_with (codes "by" ∷ []) (items p l)) ≡ []
  operation_item =
      ap (optional_misfits (operation_misfits p)) (by_found (of_problem p) (names p l) l) ∙ ap (operation_misfits p no_place) (items_back (operation_words l.operation))
      ∙ operation_fits p l.skeleton no_place l.operation fit.consistent.operation

  parent_item : optional_misfits (parent_misfits tree i) (item_with (codes "parent" ∷ []) (items p l)) ≡ []
  parent_item = ap (optional_misfits (parent_misfits tree i)) (parent_found (of_problem p) (names p l) l) ∙ parent_fits tree i l.parent agrees.parent

  root_item : optional_misfits (no_parent_misfits (items p l)) (item_with (codes "parent" ∷ []) (items p l)) ≡ []
  root_item = ap (optional_misfits (no_parent_misfits (items p l))) (parent_found (of_problem p) (names p l) l) ∙ by l.parent fit.consistent.parent
    where
      by : (o : Option ℕ) → IsParentOf labels i l.operation o → optional_misfits (no_parent_misfits (items p l)) (item_with (codes "parent" ∷ []) (parent_items o)) ≡ []
      by None e = refl
      by (Some n) e = ap (λ w. misfit_unless (not (makes_root w)) no_place) word_is ∙ ap (λ b. misfit_unless (not b) no_place) (not_root labels i l.operation n e)

  unrealised_item : optional_misfits (unrealised_misfits strands) (item_with (codes "unrealised" ∷ []) (items p l)) ≡ []
  unrealised_item =
      ap (optional_misfits (unrealised_misfits strands)) (unrealised_found (of_problem p) (names p l) l)
      ∙ optional_fits (codes "unrealised") (each_misfits (node_misfits strands)) (map node_form l.unrealised) (nodes_fit strands l.unrealised (λ n m. node_there n (fit.consistent.unrealised n m)))

  test_item : optional_misfits (test_misfits (scope_of (items p l)) strands) (item_with (codes "test" ∷ []) (items p l)) ≡ []
  test_item =
      ap (optional_misfits (test_misfits (scope_of (items p l)) strands)) (test_found (of_problem p) (names p l) l)
      ∙ test_fits (scope_of (items p l)) strands (named p l) (number l) l.test (λ t e. node_there t.node (of_test l.test fit.consistent.test t e)) (λ x m. stands under p l h x (in_test under p l h fit.consistent.patterns x m))
    where
      of_test : (o : Option Test) → IsTestOn l.skeleton o → (t : Test) → o ≡ Some t → IsNodeOf l.skeleton.strands t.node
      of_test None g t e = absurd (cc)
      of_test (Some u) g t e = let same : u ≡ t = cc in subst (λ (v : Test). IsNodeOf l.skeleton.strands v.node) same g

  operation_place : operation_place_misfits strands (word_of_label (items p l)) (drop 1 (entries_under (codes "by") (items p l))) ≡ []
  operation_place =
      ap (λ w. operation_place_misfits strands w (drop 1 (entries_under (codes "by") (items p l)))) word_is
      ∙ ap (λ fs. operation_place_misfits strands (word_for l.operation) (drop 1 fs)) (operation_are (of_problem p) (names p l) l)
      ∙ operation_there strands l.operation (named_there p l.skeleton strands l.operation node_there strand_there fit.consistent.operation)

  about_fits : about_strands_misfits p (items p l) ≡ []
  about_fits = none_and _ _ (none_and _ _ operation_place unrealised_item) test_item

  escape_item : optional_misfits (escape_misfits (items p l)) (item_with (codes "escape" ∷ []) (items p l)) ≡ []
  escape_item =
      ap (optional_misfits (escape_misfits (items p l))) (escape_found (of_problem p) (names p l) l)
      ∙ escape_fits (items p l) (map (pattern_form (named p l)) l.escape) (λ e. ap is_known (test_found (of_problem p) (names p l) l) ∙ test_known (named p l) l.test (λ t. e (nothing_mapped (pattern_form (named p l)) l.escape (fit.consistent.escape t)))) (patterns_fit under p l h fit.consistent.patterns)

  children_item : optional_misfits (λ q fs. lacking 1 q fs ++ children_misfits tree i [] fs) (item_with (codes "children" ∷ []) (items p l)) ≡ []
  children_item =
      ap (optional_misfits (λ q fs. lacking 1 q fs ++ children_misfits tree i [] fs)) (children_found (of_problem p) (names p l) l)
      ∙ optional_fits (codes "children") (children_misfits tree i []) (map numeral l.children)
      (children_fit tree i [] l.children agrees.children (are_once [] l.children fit.consistent.children.once (λ n m. refl)))

  mark_item : mark_misfits tree (items p l) (item_with mark_heads (items p l)) ≡ []
  mark_item = ap (mark_misfits tree (items p l)) (mark_found (of_problem p) (names p l) l) ∙ by l.mark fit.consistent.mark agrees.seen_there agrees.instance_there
    where
      by : (o : Option Mark) → HasMarkOrChildren labels o l.children → ((n : ℕ) → o ≡ Some (seen n) → is_label_in tree n ≡ true) → ((n : ℕ) → o ≡ Some (instance_of n) → is_label_in tree n ≡ true)
          → mark_misfits tree (items p l) (item_with mark_heads (mark_items o)) ≡ []
      by None g a b = refl
      by (Some m) g a b = mark_fits tree (items p l) m (ap is_known (children_found (of_problem p) (names p l) l) ∙ no_children_known l.children g.1) a b

  missing : (at : Place) → missing_misfits at (items p l) ≡ []
  missing at =
      none_and _ _ (none_and _ _ (none_and _ _
      (ap (λ o. misfit_unless (is_known o) at) (by_found (of_problem p) (names p l) l))
      (ap (λ o. misfit_unless (is_known o) at) (map_found (of_problem p) (names p l) l)))
      (ap (λ b. misfit_unless b at) (by_mark l.mark fit.consistent.mark (mark_found (of_problem p) (names p l) l))))
      (ap (λ b. misfit_unless b at) (by_parent l.parent fit.consistent.parent (parent_found (of_problem p) (names p l) l)))
    where
      by_mark : (o : Option Mark) → HasMarkOrChildren labels o l.children → item_with mark_heads (items p l) ≡ item_with mark_heads (mark_items o) → (has_children (items p l) || has_mark (items p l)) ≡ true
      by_mark None g e = ap (λ b. b || has_mark (items p l)) (ap is_known (children_found (of_problem p) (names p l) l) ∙ children_known l.children g)
      by_mark (Some m) g e = or_right (has_children (items p l)) (has_mark (items p l)) (ap is_known e ∙ mark_known m)

      by_parent : (o : Option ℕ) → IsParentOf labels i l.operation o → item_with (codes "parent" ∷ []) (items p l) ≡ item_with (codes "parent" ∷ []) (parent_items o)
          → (not (wants_parent (items p l)) || is_known (item_with (codes "parent" ∷ []) (items p l))) ≡ true
      by_parent None g e = ap (λ w. not (is_operation w && not (makes_root w)) || is_known (item_with (codes "parent" ∷ []) (items p l))) word_is
          ∙ ap (λ b. not b || is_known (item_with (codes "parent" ∷ []) (items p l))) (is_root labels i l.operation g)
      by_parent (Some n) g e = or_right (not (wants_parent (items p l))) (is_known (item_with (codes "parent" ∷ []) (items p l))) (ap is_known e)

  -- ---- the label form

  items_fit : (at : Place) → items_misfits p tree i at (items p l) ≡ []
  items_fit at =
      let ordered = label_items_in_order (of_problem p) (names p l) l in
      let strands_are = all_strands under whole p l h in
      none_and _ _ (none_and _ _ (none_and _ _ (none_and _ _ (none_and _ _ (none_and _ _ (none_and _ _ (none_and _ _ (none_and _ _
      (ap (λ ps. unless_misfit ps (missing_misfits at (items p l))) ordered ∙ missing at)
      root_item) parent_item) operation_item) (vars_fit under whole p l h)) strands_are)
      (ap (λ ps. where_fitting ps (around_strands_misfits p (first_or at (order_misfits lines_of_label (items p l))) (items p l) ++ about_strands_misfits p (items p l)))
      (none_and _ _ (front_in_order lines_of_label (items p l) ordered) strands_are) ∙ none_and _ _ (around_fits under whole p l h (first_or at (order_misfits lines_of_label (items p l)))) about_fits))
      escape_item) children_item) mark_item

  -- A label form as it is printed fits.
  pub label_fits : label_misfits p tree i (label_form (of_problem p) i l) ≡ []
  label_fits =
      ap (numbered_misfits p tree i no_place) (items_back (numeral i ∷ items p l))
      ∙ ap (λ b. misfit_unless b no_place ++ items_misfits p tree i no_place (items p l)) (eq-eqb i i refl) ∙ items_fit no_place
