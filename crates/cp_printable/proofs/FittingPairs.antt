-- The trees of forms that are a report have labels whose pairs go from transmissions to receptions of other strands.
use Rattle.std.proofs.Common.{◌≡◌, ℕ, suc, List, [], ◌∷◌, ◌++◌, length, Bool, true, false, ◌&&◌, refl, sym, subst, if◌then◌else◌, ⊎_elim}
use Rattle.std.specs.Prelude.{Option, Some, None, map, not, codes}
use Rattle.cp_base.specs.declared.place.Place.{Place}
use Rattle.cp_lists.specs.Lists.{IsIn}
use Rattle.cp_lists.proofs.Appended.{none_before, none_behind}
use Rattle.cp_lists.proofs.Members.{in_append, head_or_behind, only_item}
use Rattle.cp_model.specs.Strand.{Protocol}
use Rattle.cp_model.specs.Skeleton.{SkeletonStrand, term_event_at, IsOrderPair}
use Rattle.cp_model.specs.declared.node.OrderPair.{OrderPair}
use Rattle.cp_model.specs.OrderTests.{reaches_within}
use Rattle.cp_model.specs.Tree.{Label, Tree}
use Rattle.cp_sexpr.specs.Syntax.{Form, Forms}
use Rattle.cp_language.specs.Faults.{place_of, items_of}
use Rattle.cp_language.specs.Roles.{headed}
use Rattle.cp_language.specs.Problems.{Problem, is_some_transmission, is_some_reception, on_one_strand, between_strands, pair_of, pairs_in}
use Rattle.cp_language.specs.Input.{stated_problem, protocols_behind, faults_of}
use Rattle.cp_language.proofs.Bodies.{is_sent, is_received, differ}
use Rattle.cp_report.specs.Misfits.{misfit_unless, first_or, list_misfits, entries_misfits, lacking}
use Rattle.cp_report.specs.Heads.{forms_after_head, item_with, entries_or_none, optional_misfits, lines_of_label, order_misfits}
use Rattle.cp_report.specs.Skeletons.{node_misfits, has_pair, is_further_pair, pair_stated, pair_misfits, pairs_misfits, precedes_misfits, strands_of_label, map_misfits, scope_of, around_strands_misfits}
use Rattle.cp_report.specs.Labels.{behind_number, items_misfits, numbered_misfits, label_misfits, label_by, label_of}
use Rattle.cp_report.specs.ReadBack.{Section, sections_of, input_forms, labels_in_front, behind_labels, places_of, labels_misfits, if_whole, ending_misfits, tree_misfits, next_place, trees_misfits, fault_places, first_place, misfits, tree_of, tree_onto, trees_from, report_of}
use Rattle.cp_report.proofs.NoMisfits.{none_of_unless, holds}
use Rattle.cp_report.proofs.PartsFit.{items_fit}
use Rattle.cp_printable.specs.TrueTrees.{HasOrderPairs}

-- ---- lists without misfits

-- ---- one pair

module _ (strands : List SkeletonStrand) where
  -- What is asked of a pair that fits.
  record IsBetween (p : OrderPair) : Type 0 where
    sent : is_some_transmission (term_event_at strands p.earlier) ≡ true
    received : is_some_reception (term_event_at strands p.later) ≡ true
    between : on_one_strand p ≡ false

  -- Three of the five tests of a pair.
  first_three : (a b c d e : Bool) → (a && b && not c && not d && not e) ≡ true → (a ≡ true) × (b ≡ true) × (c ≡ false)
  first_three true true false d e h = (refl, refl, refl)
  first_three true true true d e h = absurd (cc)
  first_three true false c d e h = absurd (cc)
  first_three false b c d e h = absurd (cc)

  -- A pair that passes the tests.
  further_pair : (before : List OrderPair) (p : OrderPair) → is_further_pair strands before (Some p) ≡ true → IsBetween p
  further_pair before p h =
      let q = first_three (is_some_transmission (term_event_at strands p.earlier)) (is_some_reception (term_event_at strands p.later)) (on_one_strand p) (has_pair before p) (reaches_within (length before) before p.later p.earlier) h in
      record { sent = q.0; received = q.1; between = q.2 }

  -- An item of a list of at most one.
  among_one : (p q : OrderPair) (b : Bool) → IsIn q (if b then [] else p ∷ []) → q ≡ p
  among_one p q true i = elim i [ ]
  among_one p q false i = only_item i

  -- The pair that a form states, if it passes the tests.
  pair_between : (before : List OrderPair) (o : Option OrderPair) → is_further_pair strands before o ≡ true → (q : OrderPair) → IsIn q (between_strands o) → IsBetween q
  pair_between before None h q i = elim i [ ]
  pair_between before (Some p) h q i = subst IsBetween (sym (among_one p q (on_one_strand p) i)) (further_pair before p h)

  -- Each pair that forms without misfits state.
  pairs_between : (before : List OrderPair) (fs : List Form) → pairs_misfits strands before fs ≡ [] → (q : OrderPair) → IsIn q (pairs_in fs) → IsBetween q
  pairs_between before [] e q i = elim i [ ]
  pairs_between before (f ∷ fs) e q i =
      let of_pair = none_before (pair_misfits strands before f) (pairs_misfits strands (before ++ pair_of f) fs) e in
      let tested = (none_of_unless (list_misfits (entries_misfits (node_misfits strands ∷ node_misfits strands ∷ [])) f) (misfit_unless (is_further_pair strands before (pair_stated f)) (place_of f)) of_pair).1 in
      ⊎_elim (λ j. pair_between before (pair_stated f) (holds (is_further_pair strands before (pair_stated f)) (place_of f) tested) q j)
      (λ j. pairs_between (before ++ pair_of f) fs (none_behind (pair_misfits strands before f) (pairs_misfits strands (before ++ pair_of f) fs) e) q j)
      (in_append (pair_of f) (pairs_in fs) i)

  -- The same of the item that states the order; it may be missing.
  order_between : (o : Option Form) → optional_misfits (precedes_misfits strands) o ≡ [] → (q : OrderPair) → IsIn q (pairs_in (entries_or_none o)) → IsBetween q
  order_between None e q i = elim i [ ]
  order_between (Some f) e q i = pairs_between [] (forms_after_head f) (none_behind (lacking 1 (place_of f) (forms_after_head f)) (pairs_misfits strands [] (forms_after_head f)) e) q i

-- ---- one label

module _ (p : Problem) where
  -- What is asked of the pairs of one label.
  abbrev HavePairs : Label → Type 0
  HavePairs l = (q : OrderPair) → IsIn q l.skeleton.pairs → IsOrderPair l.skeleton q

  -- The items around the strands, of items that fit.
  around_none : (tree : Option (List Form)) (i : ℕ) (at : Place) (items : List Form) → items_misfits p tree i at items ≡ [] → around_strands_misfits p (first_or at (order_misfits lines_of_label items)) items ≡ []
  around_none tree i at items e = (items_fit p tree i at items e).around

  -- If these items have no misfit, the item that states the order has none.
  order_none : (at : Place) (items : List Form) → around_strands_misfits p at items ≡ [] → optional_misfits (precedes_misfits (strands_of_label p items)) (item_with (codes "precedes" ∷ []) items) ≡ []
  order_none at items e = none_before _ _ (none_before _ _ (none_before _ _ (none_before _ (optional_misfits (map_misfits p (scope_of items) (strands_of_label p items)) (item_with (codes "map" ∷ []) items)) e)))

  -- The label that items without misfits state has such pairs;
  items_have : (tree : Option (List Form)) (i : ℕ) (at : Place) (items : List Form) → items_misfits p tree i at items ≡ [] → HavePairs (label_by p items)
  items_have tree i at items e q m =
      let b = order_between (strands_of_label p items) (item_with (codes "precedes" ∷ []) items) (order_none (first_or at (order_misfits lines_of_label items)) items (around_none tree i at items e)) q m in
      let s = is_sent (term_event_at (strands_of_label p items) q.earlier) b.sent in
      let r = is_received (term_event_at (strands_of_label p items) q.later) b.received in
      record { sent = s.0; received = r.0; transmission = s.1; reception = r.1; between_strands = differ q.earlier.strand q.later.strand b.between }

  -- so has the label of a form without misfits,
  numbered_have : (tree : Option (List Form)) (i : ℕ) (at : Place) (fs : List Form) → numbered_misfits p tree i at fs ≡ [] → HavePairs (label_by p (behind_number fs))
  numbered_have tree i at [] e = absurd (cc)
  numbered_have tree i at (f ∷ fs) e = items_have tree i at (behind_number (f ∷ fs)) (none_behind _ (items_misfits p tree i at (behind_number (f ∷ fs))) e)

  -- and so has each of the labels of forms without misfits.
  labels_have : (tree : Option (List Form)) (i : ℕ) (fs : List Form) → labels_misfits p tree i fs ≡ [] → (l : Label) → IsIn l (map (label_of p) fs) → HavePairs l
  labels_have tree i [] e l m = elim m [ ]
  labels_have tree i (f ∷ fs) e l m =
      ⊎_elim (λ same. subst HavePairs (sym same) (numbered_have tree i (place_of f) (forms_after_head f) (none_before (label_misfits p tree i f) (labels_misfits p tree (suc i) fs) e)))
      (λ j. labels_have tree (suc i) fs (none_behind (label_misfits p tree i f) (labels_misfits p tree (suc i) fs) e) l j)
      (head_or_behind m)

-- ---- all trees

-- The labels of all trees have such pairs.
trees_have : (first : Place) (above : List Protocol) (ss : List Section) → trees_misfits first above ss ≡ [] → (t : Tree) → IsIn t (trees_from above ss) → HasOrderPairs t
trees_have first above [] e t m = elim m [ ]
trees_have first above (s ∷ ss) e t m =
    by (stated_problem above s.form) (none_before _ (trees_misfits first (protocols_behind (headed s.form) above) ss) e) m
    (λ j. trees_have first (protocols_behind (headed s.form) above) ss (none_behind (tree_misfits (stated_problem above s.form) (next_place first ss) s.behind) (trees_misfits first (protocols_behind (headed s.form) above) ss) e) t j)
  where
    of_tree : (p : Problem) → tree_misfits (Some p) (next_place first ss) s.behind ≡ [] → HasOrderPairs (tree_of p s.behind)
    of_tree p h = labels_have p (if_whole (labels_in_front s.behind) (behind_labels s.behind)) 0 (labels_in_front s.behind) (none_before _ (ending_misfits (map (label_of p) (labels_in_front s.behind)) (next_place first ss) (behind_labels s.behind)) h)

    by : (o : Option Problem) → tree_misfits o (next_place first ss) s.behind ≡ [] → IsIn t (tree_onto o s.behind (trees_from (protocols_behind (headed s.form) above) ss))
        → (IsIn t (trees_from (protocols_behind (headed s.form) above) ss) → HasOrderPairs t) → HasOrderPairs t
    by None h i rest = rest i
    by (Some p) h i rest = ⊎_elim (λ same. subst HasOrderPairs (sym same) (of_tree p h)) rest (head_or_behind i)

-- The pairs of each label of the trees of a report.
pub denoted_pairs : (fs : Forms) → misfits fs ≡ [] → (t : Tree) → IsIn t (report_of fs).trees → HasOrderPairs t
denoted_pairs fs e t m =
    let s = sections_of (items_of fs) in
    trees_have (first_place (items_of fs)) [] s.sections (none_behind (fault_places (faults_of (input_forms s.sections)) ++ places_of s.front) (trees_misfits (first_place (items_of fs)) [] s.sections) e) t m
