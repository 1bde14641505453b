-- The label forms and the status form of a tree as they are printed fit, and are read back as the same tree.
use Rattle.std.proofs.Common.{◌≡◌, ℕ, zero, suc, ◌+◌, ◌<◌, List, [], ◌∷◌, ◌++◌, length, true, refl, sym, ap, ◌∙◌, subst, arith, lt-ltb}
use Rattle.std.specs.Prelude.{Option, Some, None, map, codes, ◌==◌, ◌||◌, nat_lt}
use Rattle.std.proofs.lemmas.Bool.{eq-eqb, or_right}
use Rattle.cp_base.specs.declared.place.Place.{Place}
use Rattle.cp_lists.specs.Lists.{item_at, IsIn, here, there}
use Rattle.cp_lists.proofs.Appended.{none_and}
use Rattle.cp_model.specs.Term.{Substitution}
use Rattle.cp_model.specs.Senders.{ArePaired}
use Rattle.cp_model.specs.Tree.{Test, Label, Tree, is_expanded, expanded_count, if_shape, shapes_of}
use Rattle.cp_model.specs.declared.tree.Operation.TheVariants.{Problem as by_problem, Collapsed as by_collapse, Contracted as by_contraction, Displaced as by_displacement, AddedStrand as by_added_strand, AddedListener as by_added_listener, Generalised as by_generalising}
use Rattle.cp_model.specs.declared.tree.Operation.{Operation}
use Rattle.cp_model.specs.declared.tree.Mark.{Mark}
use Rattle.cp_model.specs.declared.tree.Mark.TheVariants.{Shape as shape, Dead as dead, Seen as seen, InstanceOf as instance_of, LimitSteps as limit_steps, LimitStrands as limit_strands}
use Rattle.cp_model.specs.declared.tree.Outcome.{Outcome}
use Rattle.cp_model.specs.declared.tree.Outcome.TheVariants.{Complete as complete, LimitSteps as at_step_limit, LimitStrands as at_strand_limit}
use Rattle.cp_sexpr.specs.Syntax.{Form}
use Rattle.cp_language.specs.Names.{problem_names}
use Rattle.cp_language.specs.Printed.{word, numeral, headed_list, no_place}
use Rattle.cp_language.specs.Report.{label_form, labels_from, outcome_words, one_if_shape, shape_count, status_form, tree_forms}
use Rattle.cp_language.specs.Problems.{Problem}
use Rattle.cp_report.specs.Misfits.{misfit_unless}
use Rattle.cp_report.specs.Heads.{forms_after_head}
use Rattle.cp_report.specs.Labels.{is_among, is_number, has_child, has_parent, label_misfits, label_of}
use Rattle.cp_report.specs.ReadBack.{status_misfits, outcome_of, if_whole, ending_misfits, labels_in_front, behind_labels, labels_misfits, tree_misfits, tree_of}
use Rattle.cp_report.specs.FittingTrees.{HasChild, IsParentOf, HasMarkOrChildren, FitsIn, TreeFits}
use Rattle.cp_report.specs.UpToNames.{renaming, IsSameTest, IsSameLabel, IsSameTree}
use Rattle.cp_report.proofs.SkeletonRead.{IsUnder}
use Rattle.cp_report.proofs.LabelSkeleton.{PrintedLabel}
use Rattle.cp_report.proofs.SkeletonFits.{AppliesWhole}
use Rattle.cp_report.proofs.LabelEntries.{parent_printed, children_printed}
use Rattle.cp_report.proofs.LabelRead.{label_form_back}
use Rattle.cp_report.proofs.LabelFits.{AgreesWith, label_fits}

-- ---- label forms by their numbers

label_at : (of_problem : List (List ℕ)) (s : ℕ) (ls : List Label) (n : ℕ) (l : Label) → item_at ls n ≡ Some l → item_at (labels_from of_problem s ls) n ≡ Some (label_form of_problem (s + n) l)
label_at of_problem s [] n l e = absurd (cc)
label_at of_problem s (k ∷ ls) zero l e =
    let same : k ≡ l = cc in
    let at : s ≡ s + 0 = omega arith in
    λ i. Some (label_form of_problem (at i) (same i))
label_at of_problem s (k ∷ ls) (suc n) l e =
    let at : suc s + n ≡ s + suc n = omega arith in
    label_at of_problem (suc s) ls n l e ∙ ap (λ m. Some (label_form of_problem m l)) at

as_many : (of_problem : List (List ℕ)) (s : ℕ) (ls : List Label) → length (labels_from of_problem s ls) ≡ length ls
as_many of_problem s [] = refl
as_many of_problem s (l ∷ ls) = ap suc (as_many of_problem (suc s) ls)

among : (n : ℕ) (ns : List ℕ) → IsIn n ns → is_among n ns ≡ true
among n [] m = elim m [ ]
among n (k ∷ ns) here = ap (λ b. b || is_among n ns) (eq-eqb n n refl)
among n (k ∷ ns) (there m) = or_right (k == n) (is_among n ns) (among n ns m)

module _ (of_problem : List (List ℕ)) (labels : List Label) where
  abbrev forms : List Form
  forms = labels_from of_problem 0 labels

  child_there : (i n : ℕ) → HasChild labels i n → has_child i (item_at forms n) ≡ true
  child_there i n h = ap (has_child i) (label_at of_problem 0 labels n h.0 h.1) ∙ ap (is_among i) (children_printed of_problem (0 + n) h.0) ∙ among i h.0.children h.2

  parent_there : (i n : ℕ) (m : Label) → item_at labels n ≡ Some m → m.parent ≡ Some i → has_parent i (item_at forms n) ≡ true
  parent_there i n m e q = ap (has_parent i) (label_at of_problem 0 labels n m e) ∙ ap (is_number i) (parent_printed of_problem (0 + n) m ∙ q) ∙ eq-eqb i i refl

  label_there : (n : ℕ) → n < length labels → nat_lt n (length forms) ≡ true
  label_there n less = ap (nat_lt n) (as_many of_problem 0 labels) ∙ lt-ltb n (length labels) less

  parent_named : (i : ℕ) (o : Operation) (n : ℕ) → IsParentOf labels i o (Some n) → HasChild labels i n
  parent_named i by_problem n h = let e = h in absurd (cc)
  parent_named i (by_collapse ps) n h = let e = h in absurd (cc)
  parent_named i (by_contraction m) n h = h
  parent_named i (by_displacement m) n h = h
  parent_named i (by_added_strand s) n h = h
  parent_named i (by_added_listener s) n h = h
  parent_named i by_generalising n h = h

  -- Labels that fit agree with the label forms of their tree.
  agrees : (p : Problem) (i : ℕ) (l : Label) → FitsIn p labels i l → AgreesWith (Some forms) i l
  agrees p i l fit = record {
    parent = λ n e. child_there i n (parent_named i l.operation n (subst (λ (o : Option ℕ). IsParentOf labels i l.operation o) e fit.consistent.parent));
    children = λ n m. let c = fit.consistent.children.each n m in parent_there i n c.0 c.1 c.2;
    seen_there = λ n e. label_there n (subst (λ (o : Option Mark). HasMarkOrChildren labels o l.children) e fit.consistent.mark).0;
    instance_there = λ n e. label_there n (subst (λ (o : Option Mark). HasMarkOrChildren labels o l.children) e fit.consistent.mark).0;
  }

-- ---- the labels of a tree

labels_fit : (p : Problem) (of_problem : List (List ℕ)) (tree : Option (List Form)) (s : ℕ) (ls : List Label) → ((n : ℕ) (l : Label) → item_at ls n ≡ Some l → label_misfits p tree (s + n) (label_form of_problem (s + n) l) ≡ [])
    → labels_misfits p tree s (labels_from of_problem s ls) ≡ []
labels_fit p of_problem tree s [] h = refl
labels_fit p of_problem tree s (l ∷ ls) h =
    let at : s + 0 ≡ s = omega arith in
    none_and _ _ (subst (λ (n : ℕ). label_misfits p tree n (label_form of_problem n l) ≡ []) at (h 0 l refl))
    (labels_fit p of_problem tree (suc s) ls (λ n k e. let on : s + suc n ≡ suc s + n = omega arith in subst (λ (m : ℕ). label_misfits p tree m (label_form of_problem m k) ≡ []) on (h (suc n) k e)))

labels_back : (p : Problem) (of_problem : List (List ℕ)) (s : ℕ) (ls : List Label) → ((n : ℕ) (l : Label) → item_at ls n ≡ Some l → (m : ℕ) → IsSameLabel l (label_of p (label_form of_problem m l)))
    → ArePaired IsSameLabel ls (map (label_of p) (labels_from of_problem s ls))
labels_back p of_problem s [] h = tt
labels_back p of_problem s (l ∷ ls) h = (h 0 l refl s, labels_back p of_problem (suc s) ls (λ n k e. h (suc n) k e))

-- ---- counts

same_length : (ls ms : List Label) → ArePaired IsSameLabel ls ms → length ls ≡ length ms
same_length [] [] h = refl
same_length [] (m ∷ ms) h = absurd h
same_length (l ∷ ls) [] h = absurd h
same_length (l ∷ ls) (m ∷ ms) h = ap suc (same_length ls ms h.1)

same_expanded : (f : Substitution) (t u : Option Test) → IsSameTest f t u → is_expanded t ≡ is_expanded u
same_expanded f None None h = refl
same_expanded f None (Some u) h = absurd h
same_expanded f (Some t) None h = absurd h
same_expanded f (Some t) (Some u) h = refl

-- Trees that are the same have equally many expanded labels.
pub expanded_same : (ls ms : List Label) → ArePaired IsSameLabel ls ms → expanded_count ls ≡ expanded_count ms
expanded_same [] [] h = refl
expanded_same [] (m ∷ ms) h = absurd h
expanded_same (l ∷ ls) [] h = absurd h
expanded_same (l ∷ ls) (m ∷ ms) h =
    let a = same_expanded (renaming h.0.number) l.test m.test h.0.test in let b = expanded_same ls ms h.1 in λ i. a i + b i

shapes_counted : (ls : List Label) → length (shapes_of ls) ≡ shape_count ls
shapes_counted [] = refl
shapes_counted (l ∷ ls) = by l.mark (shapes_counted ls)
  where
    none_more : length (shapes_of ls) ≡ shape_count ls → length (shapes_of ls) ≡ 0 + shape_count ls
    none_more e = omega (arith, e)

    one_more : length (shapes_of ls) ≡ shape_count ls → suc (length (shapes_of ls)) ≡ 1 + shape_count ls
    one_more e = omega (arith, e)

    by : (o : Option Mark) → length (shapes_of ls) ≡ shape_count ls → length (if_shape o l.skeleton (shapes_of ls)) ≡ one_if_shape o + shape_count ls
    by None e = none_more e
    by (Some shape) e = one_more e
    by (Some dead) e = none_more e
    by (Some (seen n)) e = none_more e
    by (Some (instance_of n)) e = none_more e
    by (Some limit_steps) e = none_more e
    by (Some limit_strands) e = none_more e

shapes_same : (ls ms : List Label) → ArePaired IsSameLabel ls ms → shape_count ls ≡ shape_count ms
shapes_same [] [] h = refl
shapes_same [] (m ∷ ms) h = absurd h
shapes_same (l ∷ ls) [] h = absurd h
shapes_same (l ∷ ls) (m ∷ ms) h = let a = ap one_if_shape h.0.mark in let b = shapes_same ls ms h.1 in λ i. a i + b i

-- ---- the status form

-- Behind the outcome three words with the right numbers.
abbrev status_of : Outcome → ℕ → ℕ → ℕ → Form
status_of o n e s = headed_list (codes "status") (outcome_words o ++ word (codes "labels") ∷ numeral n ∷ word (codes "expanded") ∷ numeral e ∷ word (codes "shapes") ∷ numeral s ∷ [])

status_fits : (labels : List Label) (o : Outcome) (n e s : ℕ) → n ≡ length labels → e ≡ expanded_count labels → s ≡ length (shapes_of labels) → status_misfits labels (status_of o n e s) ≡ []
status_fits labels o n e s a b c = by o
  where
    counted : misfit_unless (n == length labels) no_place ++ (misfit_unless (e == expanded_count labels) no_place ++ (misfit_unless (s == length (shapes_of labels)) no_place ++ [])) ≡ []
    counted =
        none_and _ _ (ap (λ t. misfit_unless t no_place) (eq-eqb n (length labels) a))
        (none_and _ _ (ap (λ t. misfit_unless t no_place) (eq-eqb e (expanded_count labels) b)) (none_and _ _ (ap (λ t. misfit_unless t no_place) (eq-eqb s (length (shapes_of labels)) c)) refl))

    by : (o : Outcome) → status_misfits labels (status_of o n e s) ≡ []
    by complete = counted
    by at_step_limit = counted
    by at_strand_limit = counted

-- ---- the forms of a tree

front_of_tree : (of_problem : List (List ℕ)) (s : ℕ) (ls : List Label) (o : Outcome) (n e c : ℕ) → labels_in_front (labels_from of_problem s ls ++ status_of o n e c ∷ []) ≡ labels_from of_problem s ls
front_of_tree of_problem s [] o n e c = refl
front_of_tree of_problem s (l ∷ ls) o n e c = ap (λ fs. label_form of_problem s l ∷ fs) (front_of_tree of_problem (suc s) ls o n e c)

behind_tree : (of_problem : List (List ℕ)) (s : ℕ) (ls : List Label) (o : Outcome) (n e c : ℕ) → behind_labels (labels_from of_problem s ls ++ status_of o n e c ∷ []) ≡ status_of o n e c ∷ []
behind_tree of_problem s [] o n e c = refl
behind_tree of_problem s (l ∷ ls) o n e c = behind_tree of_problem (suc s) ls o n e c

module _ (under : IsUnder) (whole : AppliesWhole) (p : Problem) (t : Tree) (fit : TreeFits p t) (printed : (i : ℕ) (l : Label) → item_at t.labels i ≡ Some l → PrintedLabel p l) where
  abbrev of_problem : List (List ℕ)
  of_problem = problem_names p.declared p.variables

  abbrev label_forms : List Form
  label_forms = labels_from of_problem 0 t.labels

  read : ArePaired IsSameLabel t.labels (map (label_of p) label_forms)
  read = labels_back p of_problem 0 t.labels (λ n l e m. label_form_back under p l (printed n l e) (fit n l e).consistent.patterns m)

  each_fits : labels_misfits p (Some label_forms) 0 label_forms ≡ []
  each_fits = labels_fit p of_problem (Some label_forms) 0 t.labels one_fits
    where
      one_fits : (n : ℕ) (l : Label) → item_at t.labels n ≡ Some l → label_misfits p (Some label_forms) (0 + n) (label_form of_problem (0 + n) l) ≡ []
      one_fits n l e =
          let z : n ≡ 0 + n = omega arith in
          subst (λ (m : ℕ). label_misfits p (Some label_forms) m (label_form of_problem m l) ≡ []) z
          (label_fits under whole p l (printed n l e) t.labels n (fit n l e) (Some label_forms) (agrees of_problem t.labels p n l (fit n l e)))

  ending : status_misfits (map (label_of p) label_forms) (status_form t) ≡ []
  ending =
      status_fits (map (label_of p) label_forms) t.outcome (length t.labels) (expanded_count t.labels) (shape_count t.labels)
      (same_length t.labels (map (label_of p) label_forms) read) (expanded_same t.labels (map (label_of p) label_forms) read)
      (shapes_same t.labels (map (label_of p) label_forms) read ∙ sym (shapes_counted (map (label_of p) label_forms)))

  -- The forms of a tree as they are printed fit behind the problem,
  pub tree_fits : (next : Place) → tree_misfits (Some p) next (tree_forms p t) ≡ []
  tree_fits next =
      let a = front_of_tree of_problem 0 t.labels t.outcome (length t.labels) (expanded_count t.labels) (shape_count t.labels) in
      let b = behind_tree of_problem 0 t.labels t.outcome (length t.labels) (expanded_count t.labels) (shape_count t.labels) in
      (λ i. labels_misfits p (if_whole (a i) (b i)) 0 (a i) ++ ending_misfits (map (label_of p) (a i)) next (b i))
      ∙ none_and _ _ each_fits (none_and _ _ ending refl)

  -- and are read back as the same tree.
  pub tree_back : IsSameTree t (tree_of p (tree_forms p t))
  tree_back =
      let a = front_of_tree of_problem 0 t.labels t.outcome (length t.labels) (expanded_count t.labels) (shape_count t.labels) in
      let b = behind_tree of_problem 0 t.labels t.outcome (length t.labels) (expanded_count t.labels) (shape_count t.labels) in
      record {
        labels = subst (λ (fs : List Form). ArePaired IsSameLabel t.labels (map (label_of p) fs)) (sym a) read;
        outcome = sym (ap outcome_in b ∙ by t.outcome);
      }
    where
      outcome_in : List Form → Outcome
      outcome_in [] = complete
      outcome_in (f ∷ fs) = outcome_of (forms_after_head f)

      by : (o : Outcome) → outcome_of (forms_after_head (status_of o (length t.labels) (expanded_count t.labels) (shape_count t.labels))) ≡ o
      by complete = refl
      by at_step_limit = refl
      by at_strand_limit = refl
