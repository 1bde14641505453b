-- An accepted label whose variables are numbered behind those of its problem: it fits, and it is the same except for their names.
use Rattle.std.proofs.Common.{◌≡◌, ℕ, ◌+◌, ◌<◌, ◌^◌, List, [], ◌∷◌, ◌++◌, length, refl, sym, ap, ◌∙◌, subst, arith, ⊎_elim}
use Rattle.std.specs.Prelude.{Option, Some, None, map}
use Rattle.std.proofs.lemmas.List.{length-map, length-append}
use Rattle.cp_lists.specs.Lists.{item_at, IsIn}
use Rattle.cp_lists.proofs.Items.{map_of_item, item_behind}
use Rattle.cp_lists.proofs.Members.{in_append, in_append_left, in_append_right, into_map, from_map}
use Rattle.cp_model.specs.Senders.{ArePaired}
use Rattle.cp_model.specs.Term.{AtomTerm, Term, variables_of, variables_of_atom, apply_to, apply_to_atom, apply_to_key}
use Rattle.cp_model.specs.declared.variable.Variable.{Variable}
use Rattle.cp_model.specs.Strand.{variables_of_trace}
use Rattle.cp_model.specs.declared.variable.Declaration.{Declaration}
use Rattle.cp_model.specs.declared.strand.Event.{Event}
use Rattle.cp_model.specs.Pattern.{IsPattern}
use Rattle.cp_model.specs.Problem.{declared_sort, IsDeclared, variables_of_strands, variables_of_atoms, variables_of_uniques, variables_of_assumptions, variables_of_skeleton, variables_of_terms}
use Rattle.cp_model.specs.Skeleton.{SkeletonStrand, skeleton_trace, UniqueAt, Skeleton}
use Rattle.cp_model.specs.Tree.{Pattern, Test, Label}
use Rattle.cp_model.specs.declared.tree.Operation.{Operation}
use Rattle.cp_model.specs.declared.tree.Operation.TheVariants.{Problem as by_problem, Collapsed as by_collapse, Contracted as by_contraction, Displaced as by_displacement, AddedStrand as by_added_strand, AddedListener as by_added_listener, Generalised as by_generalising}
use Rattle.cp_model.specs.declared.tree.Mark.{Mark}
use Rattle.cp_model.specs.declared.tree.Mark.TheVariants.{Shape as shape, Dead as dead, Seen as seen, InstanceOf as instance_of, LimitSteps as limit_steps, LimitStrands as limit_strands}
use Rattle.cp_model.proofs.UnderVariables.{of_trace}
use Rattle.cp_language.specs.Problems.{Problem}
use Rattle.cp_language.specs.Report.{variables_of_test, variables_but, variables_of_patterns, occurring}
use Rattle.cp_language.proofs.NoLocals.{from_but}
use Rattle.cp_report.specs.FittingTrees.{HasSortOf, IsOperationOn, HasChild, HasParent, IsParentOf, AreChildrenOf, IsTestOn, IsMarkIn, HasMarkOrChildren, FitsIn}
use Rattle.cp_report.specs.UpToNames.{renamed, unique_renamed, IsSamePattern, IsSameTest, IsSameLabel}
use Rattle.cp_report.proofs.Inverses.{ComesFrom, is_renamed, term_onto, term_from, atom_from}
use Rattle.cp_report.proofs.LabelRead.{not_among}
use Rattle.cp_report.proofs.OwnStated.{AreOver}
use Rattle.cp_report.proofs.PrintedStrands.{sort_kept}
use Rattle.cp_report.proofs.RenamedStrands.{trace_renamed}
use Rattle.cp_readback.specs.AcceptedLabels.{IsAcceptedIn, IsCompleteLabel}
use Rattle.cp_readback.proofs.FittingImages.{keeps_all}
use Rattle.cp_readback.proofs.ShiftedSkeletons.{images_back, above, below, up, down, returned, term_back, shifted_strand, up_strand, shifted, down_same, shifted_node, shifted_is_skeleton, shifted_keeps}

module _ (n : ℕ) where
  -- ---- shifted labels

  -- The test with greater numbers.
  abbrev pub shifted_test : Option Test → Option Test
  shifted_test None = None
  shifted_test (Some t) = Some (record { node = t.node; critical = apply_to (up n) t.critical })

  -- The pattern with greater numbers, in its locals too.
  abbrev pub shifted_pattern : Pattern → Pattern
  shifted_pattern q = record { term = apply_to (up n) q.term; locals = map (renamed (above n)) q.locals }

  -- The label behind these variables.
  abbrev pub shifted_label : List Declaration → Label → Label
  shifted_label front l = record {
    parent = l.parent;
    operation = l.operation;
    skeleton = shifted n front l.skeleton;
    unrealised = l.unrealised;
    test = shifted_test l.test;
    escape = map shifted_pattern l.escape;
    children = l.children;
    mark = l.mark;
  }

  -- ---- the variables that occur

  -- Each of the second variables is one of the first, shifted.
  abbrev pub Come : List Variable → List Variable → Type 0
  Come xs ys = (w : Variable) → IsIn w ys → ComesFrom (above n) xs w

  -- The same of two lists after one another,
  both_come : (xs ys us vs : List Variable) → Come xs us → Come ys vs → Come (xs ++ ys) (us ++ vs)
  both_come xs ys us vs g h w m =
      ⊎_elim (λ i. let c = g w i in record { from = c.from; listed = in_append_left ys c.listed; is = c.is }) (λ i. let c = h w i in record { from = c.from; listed = in_append_right xs c.listed; is = c.is }) (in_append us vs m)

  -- of none,
  none_come : Come [] []
  none_come w m = elim m [ ]

  -- of a strand,
  strand_come : (s : SkeletonStrand) → Come (variables_of_trace (skeleton_trace s)) (variables_of_trace (skeleton_trace (shifted_strand n s)))
  strand_come s w m =
      of_trace (ComesFrom (above n) (variables_of_trace (skeleton_trace s))) (up n) (skeleton_trace s) (λ x i y j. record { from = x; listed = i; is = is_renamed (above n) x y j }) w
      (subst (λ (es : List (Event Term)). IsIn w (variables_of_trace es)) (trace_renamed (up n) s (shifted_strand n s) (up_strand n s)) m)

  -- of all strands,
  strands_come : (ss : List SkeletonStrand) → Come (variables_of_strands ss) (variables_of_strands (map (shifted_strand n) ss))
  strands_come [] = none_come
  strands_come (s ∷ ss) =
      both_come (variables_of_trace (skeleton_trace s)) (variables_of_strands ss) (variables_of_trace (skeleton_trace (shifted_strand n s))) (variables_of_strands (map (shifted_strand n) ss)) (strand_come s) (strands_come ss)

  -- of atoms,
  atoms_come : (vs : List AtomTerm) → Come (variables_of_atoms vs) (variables_of_atoms (map (apply_to_atom (up n)) vs))
  atoms_come [] = none_come
  atoms_come (v ∷ vs) = both_come (variables_of_atom v) (variables_of_atoms vs) (variables_of_atom (apply_to_atom (up n) v)) (variables_of_atoms (map (apply_to_atom (up n)) vs)) (atom_from (above n) v) (atoms_come vs)

  -- of unique values,
  uniques_come : (us : List UniqueAt) → Come (variables_of_uniques us) (variables_of_uniques (map (unique_renamed (up n)) us))
  uniques_come [] = none_come
  uniques_come (u ∷ us) =
      both_come (variables_of_atom u.value) (variables_of_uniques us) (variables_of_atom (apply_to_atom (up n) u.value)) (variables_of_uniques (map (unique_renamed (up n)) us)) (atom_from (above n) u.value) (uniques_come us)

  -- of terms,
  terms_come : (ts : List Term) → Come (variables_of_terms ts) (variables_of_terms (map (apply_to (up n)) ts))
  terms_come [] = none_come
  terms_come (t ∷ ts) = both_come (variables_of t) (variables_of_terms ts) (variables_of (apply_to (up n) t)) (variables_of_terms (map (apply_to (up n)) ts)) (term_from (above n) t) (terms_come ts)

  -- of a test,
  test_come : (o : Option Test) → Come (variables_of_test o) (variables_of_test (shifted_test o))
  test_come None = none_come
  test_come (Some t) = term_from (above n) t.critical

  -- of a pattern, without its locals,
  pattern_come : (q : Pattern) → Come (variables_but q.locals (variables_of q.term)) (variables_but (map (renamed (above n)) q.locals) (variables_of (apply_to (up n) q.term)))
  pattern_come q w m =
      let r = from_but (map (renamed (above n)) q.locals) (variables_of (apply_to (up n) q.term)) w m in
      let c = term_from (above n) q.term w r.0 in
      record {
        from = c.from;
        listed = not_among q.locals (variables_of q.term) c.from c.listed (λ i. r.1 (subst (λ (x : Variable). IsIn x (map (renamed (above n)) q.locals)) c.is (into_map (renamed (above n)) i)));
        is = c.is;
      }

  -- of patterns,
  patterns_come : (qs : List Pattern) → Come (variables_of_patterns qs) (variables_of_patterns (map shifted_pattern qs))
  patterns_come [] = none_come
  patterns_come (q ∷ qs) =
      both_come (variables_but q.locals (variables_of q.term)) (variables_of_patterns qs) (variables_but (map (renamed (above n)) q.locals) (variables_of (apply_to (up n) q.term))) (variables_of_patterns (map shifted_pattern qs))
      (pattern_come q) (patterns_come qs)

  -- and of a label.
  pub label_come : (front : List Declaration) (l : Label) → Come (occurring l) (occurring (shifted_label front l))
  label_come front l =
      let k = l.skeleton in
      let m = shifted n front k in
      let a = k.assumptions in
      let b = m.assumptions in
      let strands = both_come (variables_of_strands k.strands) (variables_of_assumptions a) (variables_of_strands m.strands) (variables_of_assumptions b) (strands_come k.strands)
      (both_come (variables_of_atoms a.non_originating ++ variables_of_atoms a.penetrator_non_originating) (variables_of_uniques a.uniquely_originating)
      (variables_of_atoms b.non_originating ++ variables_of_atoms b.penetrator_non_originating) (variables_of_uniques b.uniquely_originating)
      (both_come (variables_of_atoms a.non_originating) (variables_of_atoms a.penetrator_non_originating) (variables_of_atoms b.non_originating) (variables_of_atoms b.penetrator_non_originating)
      (atoms_come a.non_originating) (atoms_come a.penetrator_non_originating)) (uniques_come a.uniquely_originating)) in
      both_come (variables_of_skeleton k ++ variables_of_terms k.from_problem.values ++ variables_of_test l.test) (variables_of_patterns l.escape)
      (variables_of_skeleton m ++ variables_of_terms m.from_problem.values ++ variables_of_test (shifted_test l.test)) (variables_of_patterns (map shifted_pattern l.escape))
      (both_come (variables_of_skeleton k ++ variables_of_terms k.from_problem.values) (variables_of_test l.test) (variables_of_skeleton m ++ variables_of_terms m.from_problem.values) (variables_of_test (shifted_test l.test))
      (both_come (variables_of_skeleton k) (variables_of_terms k.from_problem.values) (variables_of_skeleton m) (variables_of_terms m.from_problem.values) strands (terms_come k.from_problem.values)) (test_come l.test))
      (patterns_come l.escape)

  -- ---- the same label

  -- No two shifted variables lead back to one.
  apart_back : (x y w z : Variable) → renamed (above n) w ≡ x → renamed (above n) z ≡ y → renamed (below n) x ≡ renamed (below n) y → x ≡ y
  apart_back x y w z e g h =
      sym e ∙ ap (renamed (above n)) (sym (returned n w) ∙ ap (renamed (below n)) e ∙ h ∙ sym (ap (renamed (below n)) g) ∙ returned n z) ∙ g

  -- A pattern is the same as the shifted one.
  same_pattern : (q : Pattern) → IsSamePattern (below n) (shifted_pattern q) q
  same_pattern q = record {
    with_locals = below n;
    one_to_one = λ x y i j h. let a = term_from (above n) q.term x i in let b = term_from (above n) q.term y j in apart_back x y a.from b.from a.is b.is h;
    others = λ x i other. refl;
    term = term_back n q.term;
    locals = images_back (renamed (above n)) (renamed (below n)) q.locals (returned n);
  }

  -- So are all of them,
  same_patterns : (qs : List Pattern) → ArePaired (IsSamePattern (below n)) (map shifted_pattern qs) qs
  same_patterns [] = tt
  same_patterns (q ∷ qs) = (same_pattern q, same_patterns qs)

  -- and the test.
  same_test : (o : Option Test) → IsSameTest (down n) (shifted_test o) o
  same_test None = tt
  same_test (Some t) = (refl, term_back n t.critical)

  -- The shifted label is the same as the label.
  pub shifted_same : (front : List Declaration) (l : Label) → IsSameLabel (shifted_label front l) l
  shifted_same front l = record {
    number = below n;
    one_to_one = λ x y i j h. let a = label_come front l x i in let b = label_come front l y j in apart_back x y a.from b.from a.is b.is h;
    parent = refl;
    operation = refl;
    skeleton = down_same n front l.skeleton;
    unrealised = refl;
    test = same_test l.test;
    escape = same_patterns l.escape;
    children = refl;
    mark = refl;
  }

  -- ---- what has to hold of it

  -- A pattern stays one.
  shifted_is_pattern : (q : Pattern) → IsPattern q → IsPattern (shifted_pattern q)
  shifted_is_pattern q is = record {
    encryption = record { body = apply_to (up n) is.encryption.body; key = apply_to_key (up n) is.encryption.key; encrypted = ap (apply_to (up n)) is.encryption.encrypted };
    locals_occur = λ x i. let r = from_map (renamed (above n)) q.locals i in subst (λ (y : Variable). IsIn y (variables_of (apply_to (up n) q.term))) r.2 (term_onto (above n) q.term r.0 (is.locals_occur r.0 r.1));
  }

  -- The values of the map keep their sorts.
  shifted_values : (ds : List Declaration) (ts : List Term) → ArePaired HasSortOf ds ts → ArePaired HasSortOf ds (map (apply_to (up n)) ts)
  shifted_values [] [] h = tt
  shifted_values [] (t ∷ ts) h = absurd h
  shifted_values (d ∷ ds) [] h = absurd h
  shifted_values (d ∷ ds) (t ∷ ts) h = ((apply_to_atom (up n) h.0.0, ap (apply_to (up n)) h.0.1, sort_kept (up n) h.0.0 ∙ h.0.2), shifted_values ds ts h.1)

  -- The strands are as many.
  as_many_strands : (front : List Declaration) (k : Skeleton) (s : ℕ) → s < length k.strands → s < length (shifted n front k).strands
  as_many_strands front k s less = subst (λ (m : ℕ). s < m) (sym (length-map k.strands (shifted_strand n))) less

  -- An operation is one on the shifted skeleton,
  shifted_operation : (front : List Declaration) (p : Problem) (k : Skeleton) (o : Operation) → IsOperationOn p k o → IsOperationOn p (shifted n front k) o
  shifted_operation front p k by_problem h = tt
  shifted_operation front p k (by_collapse ps) h = h
  shifted_operation front p k (by_contraction x) h = shifted_node n front k x h
  shifted_operation front p k (by_displacement x) h = shifted_node n front k x h
  shifted_operation front p k (by_added_strand s) h = as_many_strands front k s h
  shifted_operation front p k (by_added_listener s) h = as_many_strands front k s h
  shifted_operation front p k by_generalising h = tt

  -- and so is a test.
  shifted_test_on : (front : List Declaration) (k : Skeleton) (o : Option Test) → IsTestOn k o → IsTestOn (shifted n front k) (shifted_test o)
  shifted_test_on front k None h = tt
  shifted_test_on front k (Some t) h = shifted_node n front k t.node h

  -- Where there is no shifted test there is none.
  no_test : (o : Option Test) → shifted_test o ≡ None → o ≡ None
  no_test None e = refl
  no_test (Some t) e = absurd (cc)

  module _ (front : List Declaration) (labels : List Label) where
    abbrev all : List Label
    all = map (shifted_label front) labels

    -- A child stays one,
    child_kept : (i m : ℕ) → HasChild labels i m → HasChild all i m
    child_kept i m h = (shifted_label front h.0, map_of_item (shifted_label front) labels m h.0 h.1, h.2)

    -- so does a parent,
    parent_kept : (i : ℕ) (o : Option ℕ) → HasParent labels i o → HasParent all i o
    parent_kept i None h = h
    parent_kept i (Some m) h = child_kept i m h

    -- whatever the operation;
    is_parent_kept : (i : ℕ) (o : Operation) (parent : Option ℕ) → IsParentOf labels i o parent → IsParentOf all i o parent
    is_parent_kept i by_problem parent h = h
    is_parent_kept i (by_collapse ps) parent h = h
    is_parent_kept i (by_contraction x) parent h = parent_kept i parent h
    is_parent_kept i (by_displacement x) parent h = parent_kept i parent h
    is_parent_kept i (by_added_strand s) parent h = parent_kept i parent h
    is_parent_kept i (by_added_listener s) parent h = parent_kept i parent h
    is_parent_kept i by_generalising parent h = parent_kept i parent h

    -- so do all children,
    children_kept : (i : ℕ) (cs : List ℕ) → AreChildrenOf labels i cs → AreChildrenOf all i cs
    children_kept i cs h = record { each = λ m c. let r = h.each m c in (shifted_label front r.0, map_of_item (shifted_label front) labels m r.0 r.1, r.2); once = h.once }

    -- a mark,
    mark_kept : (m : Mark) → IsMarkIn labels m → IsMarkIn all m
    mark_kept (seen i) h = subst (λ (c : ℕ). i < c) (sym (length-map labels (shifted_label front))) h
    mark_kept (instance_of i) h = subst (λ (c : ℕ). i < c) (sym (length-map labels (shifted_label front))) h
    mark_kept shape h = tt
    mark_kept dead h = tt
    mark_kept limit_steps h = tt
    mark_kept limit_strands h = tt

    -- and a mark or children.
    mark_or_children_kept : (o : Option Mark) (cs : List ℕ) → HasMarkOrChildren labels o cs → HasMarkOrChildren all o cs
    mark_or_children_kept None cs h = h
    mark_or_children_kept (Some m) cs h = (mark_kept m h.0, h.1)

-- ---- behind the problem's variables

-- A declared variable, shifted, is declared behind others.
declared_behind : (front ds : List Declaration) (x w : Variable) → IsDeclared ds x → renamed (above (length front)) x ≡ w → IsDeclared (front ++ ds) w
declared_behind front ds x w d e =
    subst (IsDeclared (front ++ ds)) e
    (subst (λ (m : ℕ). declared_sort (item_at (front ++ ds) m) ≡ Some x.sort) place (ap declared_sort (item_behind front ds x.number) ∙ d))
  where
    place : length front + x.number ≡ x.number + length front
    place = omega arith

-- An accepted label that is complete fits, behind the problem's variables.
pub shifted_fits : (p : Problem) → AreOver p.variables p.skeleton.from_problem.assumptions → (labels : List Label) (i : ℕ) (l : Label) → IsAcceptedIn p labels i l → IsCompleteLabel p l
    → FitsIn p (map (shifted_label (length p.variables) p.variables) labels) i (shifted_label (length p.variables) p.variables l)
shifted_fits p over labels i l a whole =
    let n = length p.variables in
    let many : length (p.variables ++ l.skeleton.variables) ≡ length p.variables + length l.skeleton.variables = length-append p.variables l.skeleton.variables in
    let small : length p.variables + length l.skeleton.variables < 2 ^ 64 = whole.few in
    record {
      variables = record { later = l.skeleton.variables; variables = refl; declared = λ w m. let c = label_come n p.variables l w m in declared_behind p.variables l.skeleton.variables c.from w (a.declared c.from c.listed) c.is };
      few = omega (arith, many, small);
      stated = shifted_keeps n p.variables p.variables p.skeleton l.skeleton a.consistent.maps_all.values over (keeps_all p.skeleton l.skeleton a.stated whole.stated);
      consistent = record {
        skeleton = shifted_is_skeleton n p.variables p.protocol l.skeleton a.consistent.skeleton;
        maps_all = record { strands = a.consistent.maps_all.strands; values = shifted_values n p.variables l.skeleton.from_problem.values a.consistent.maps_all.values };
        operation = shifted_operation n p.variables p l.skeleton l.operation a.consistent.operation;
        parent = is_parent_kept n p.variables labels i l.operation l.parent a.consistent.parent;
        unrealised = λ x m. shifted_node n p.variables l.skeleton x (a.consistent.unrealised x m);
        test = shifted_test_on n p.variables l.skeleton l.test a.consistent.test;
        patterns = λ q m. let r = from_map (shifted_pattern n) l.escape m in subst IsPattern r.2 (shifted_is_pattern n r.0 (a.consistent.patterns r.0 r.1));
        escape = λ e. ap (map (shifted_pattern n)) (a.consistent.escape (no_test n l.test e));
        children = children_kept n p.variables labels i l.children a.consistent.children;
        mark = mark_or_children_kept n p.variables labels l.mark l.children a.consistent.mark;
      };
    }
