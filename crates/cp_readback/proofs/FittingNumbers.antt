-- Parents, children and marks that fit: the labels that they name are there and agree.
use Rattle.std.proofs.Common.{◌≡◌, ◌≢◌, ◌⊎◌, inl, inr, ℕ, zero, suc, ◌<◌, List, [], ◌∷◌, ◌++◌, length, Bool, true, false, ◌&&◌, ◌||◌, not, refl, sym, ap, subst, ltb-true, eqb-true, eq-eqb, if◌then◌else◌, ⊎_elim}
use Rattle.std.specs.Prelude.{Option, Some, None, map, codes, ◌==◌}
use Rattle.std.proofs.lemmas.Bool.{and_parts, or_cases, both_ways, not-true, or_right}
use Rattle.std.proofs.lemmas.List.{length-map}
use Rattle.cp_base.specs.declared.place.Place.{Place}
use Rattle.cp_lists.specs.Lists.{item_at, IsIn, here, there}
use Rattle.cp_lists.proofs.Appended.{none_before, none_behind}
use Rattle.cp_lists.proofs.Items.{map_of_item, at_place}
use Rattle.cp_lists.proofs.Members.{at_head}
use Rattle.cp_model.specs.Tree.{Label}
use Rattle.cp_model.specs.declared.tree.Mark.{Mark}
use Rattle.cp_model.specs.declared.tree.Mark.TheVariants.{Shape as shape, Dead as dead, Seen as seen, InstanceOf as instance_of, LimitSteps as limit_steps, LimitStrands as limit_strands}
use Rattle.cp_model.specs.Same.{same_text}
use Rattle.cp_sexpr.specs.Syntax.{Form, symbol, string, number, list}
use Rattle.cp_language.specs.Words.{is_one_of}
use Rattle.cp_language.specs.Faults.{place_of}
use Rattle.cp_language.specs.Roles.{Headed, headed}
use Rattle.cp_language.specs.Problems.{Problem, is_known, number_of, name_in_front}
use Rattle.cp_report.specs.Misfits.{misfit_unless, lacking, entries_misfits, number_misfits, symbol_misfits}
use Rattle.cp_report.specs.Heads.{is_headed_by, has_head, forms_after_head, entries_or_none, entries_under, optional_misfits, mark_heads}
use Rattle.cp_report.specs.Labels.{is_among, is_number, stated_number, number_in_front, numbers_in, items_of_label, stated_parent, stated_children, has_parent, has_child, has_parent_in, has_child_in, is_label_in, parent_misfits, children_misfits, number_stated, mark_kinds, mark_named, mark_of, headed_mark_misfits, label_of}
use Rattle.cp_report.specs.FittingTrees.{HasChild, HasParent, AreChildrenOf, IsMarkIn, HasMarkOrChildren}
use Rattle.cp_report.proofs.NoMisfits.{holds}
use Rattle.cp_readback.proofs.FittingItems.{number_fits}

-- ---- numbers among others

-- A number that is found among others is one of them.
among_in : (n : ℕ) (ns : List ℕ) → is_among n ns ≡ true → IsIn n ns
among_in n [] e = absurd (cc)
among_in n (m ∷ ms) e = ⊎_elim (λ h. at_head (sym (eqb-true m n h))) (λ h. there (among_in n ms h)) (or_cases (m == n) (is_among n ms) e)

-- One of the numbers is found among them.
in_among : (n : ℕ) (ns : List ℕ) → IsIn n ns → is_among n ns ≡ true
in_among n [] m = elim m [ ]
in_among n (k ∷ ns) here = ap (λ b. b || is_among n ns) (eq-eqb n n refl)
in_among n (k ∷ ns) (there m) = or_right (k == n) (is_among n ns) (in_among n ns m)

-- A number that is stated is the same one.
pub number_is : (i : ℕ) (o : Option ℕ) → is_number i o ≡ true → o ≡ Some i
number_is i None e = absurd (cc)
number_is i (Some m) e = ap Some (eqb-true m i e)

-- The numbers among the entries are numbers of entries.
numbers_of_entries : (n : ℕ) (fs : List Form) → IsIn n (numbers_in fs) → IsIn n (map number_of fs)
numbers_of_entries n [] m = elim m [ ]
numbers_of_entries n (symbol at t ∷ fs) m = there (numbers_of_entries n fs m)
numbers_of_entries n (string at t ∷ fs) m = there (numbers_of_entries n fs m)
numbers_of_entries n (list at gs ∷ fs) m = there (numbers_of_entries n fs m)
numbers_of_entries n (number at k ∷ fs) here = here
numbers_of_entries n (number at k ∷ fs) (there m) = there (numbers_of_entries n fs m)

module _ (p : Problem) (forms : List Form) where
  abbrev labels : List Label
  labels = map (label_of p) forms

  -- ---- parents

  -- A label form that names label i among its children denotes a label with that child.
  has_child_label : (i n : ℕ) → has_child i (item_at forms n) ≡ true → HasChild labels i n
  has_child_label i n e = by (item_at forms n) refl e
    where
      by : (o : Option Form) → item_at forms n ≡ o → has_child i o ≡ true → HasChild labels i n
      by None q h = absurd (cc)
      by (Some f) q h = (label_of p f, map_of_item (label_of p) forms n f q, numbers_of_entries i (entries_under (codes "children") (items_of_label f)) (among_in i (stated_children f) h))

  -- One number stands under `parent`, and that label names this one as its child.
  one_parent : (i : ℕ) (at : Place) (fs : List Form) → parent_misfits (Some forms) i at fs ≡ [] → HasParent labels i (number_in_front fs)
  one_parent i at [] e = absurd (cc)
  one_parent i at (f ∷ fs) e = by f (none_before (number_misfits (has_child_in (Some forms) i) f) (entries_misfits [] at fs) e)
    where
      by : (g : Form) → number_misfits (has_child_in (Some forms) i) g ≡ [] → HasParent labels i (stated_number g)
      by (symbol q t) h = absurd (cc)
      by (string q t) h = absurd (cc)
      by (number q n) h = has_child_label i n (holds (has_child i (item_at forms n)) q h)
      by (list q gs) h = absurd (cc)

  -- The same of the item, if it is there.
  pub parent_there : (i : ℕ) (o : Option Form) → optional_misfits (parent_misfits (Some forms) i) o ≡ [] → is_known o ≡ true → HasParent labels i (number_in_front (entries_or_none o))
  parent_there i None e h = absurd (cc)
  parent_there i (Some f) e h = one_parent i (place_of f) (forms_after_head f) e

  -- ---- children

  -- A label form that names label i as its parent denotes a label with that parent.
  has_parent_label : (i n : ℕ) → has_parent i (item_at forms n) ≡ true → (m : Label) × (item_at labels n ≡ Some m) × (m.parent ≡ Some i)
  has_parent_label i n e = by (item_at forms n) refl e
    where
      by : (o : Option Form) → item_at forms n ≡ o → has_parent i o ≡ true → (m : Label) × (item_at labels n ≡ Some m) × (m.parent ≡ Some i)
      by None q h = absurd (cc)
      by (Some f) q h = (label_of p f, map_of_item (label_of p) forms n f q, number_is i (stated_parent f) h)

  -- What is asked of a child.
  child_test : (i : ℕ) (before : List ℕ) (f : Form) (fs : List Form) → children_misfits (Some forms) i before (f ∷ fs) ≡ [] → (has_parent i (item_at forms (number_of f)) ≡ true) × (is_among (number_of f) before ≡ false)
  child_test i before f fs e =
      let test = number_fits (λ n. has_parent_in (Some forms) i n && not (is_among n before)) f
      (none_before (number_misfits (λ n. has_parent_in (Some forms) i n && not (is_among n before)) f) (children_misfits (Some forms) i (number_of f ∷ before) fs) e) in
      let both = and_parts (has_parent i (item_at forms (number_of f))) (not (is_among (number_of f) before)) test in
      (both.0, not-true (is_among (number_of f) before) both.1)

  -- The children behind the first.
  later_children : (i : ℕ) (before : List ℕ) (f : Form) (fs : List Form) → children_misfits (Some forms) i before (f ∷ fs) ≡ [] → children_misfits (Some forms) i (number_of f ∷ before) fs ≡ []
  later_children i before f fs e = none_behind (number_misfits (λ n. has_parent_in (Some forms) i n && not (is_among n before)) f) (children_misfits (Some forms) i (number_of f ∷ before) fs) e

  -- Each child names label i as its parent.
  each_child : (i : ℕ) (before : List ℕ) (fs : List Form) → children_misfits (Some forms) i before fs ≡ [] → (n : ℕ) → IsIn n (map number_of fs) → has_parent i (item_at forms n) ≡ true
  each_child i before [] e n m = elim m [ ]
  each_child i before (f ∷ fs) e n here = (child_test i before f fs e).0
  each_child i before (f ∷ fs) e n (there m) = each_child i (number_of f ∷ before) fs (later_children i before f fs e) n m

  -- No child stands before.
  fresh_child : (i : ℕ) (before : List ℕ) (fs : List Form) → children_misfits (Some forms) i before fs ≡ [] → (n : ℕ) → IsIn n before → IsIn n (map number_of fs) → ⊥
  fresh_child i before [] e n b m = elim m [ ]
  fresh_child i before (f ∷ fs) e n b here = both_ways (is_among (number_of f) before) (child_test i before f fs e).1 (in_among (number_of f) before b)
  fresh_child i before (f ∷ fs) e n b (there m) = fresh_child i (number_of f ∷ before) fs (later_children i before f fs e) n (there b) m

  -- No child stands twice.
  children_once : (i : ℕ) (before : List ℕ) (fs : List Form) → children_misfits (Some forms) i before fs ≡ [] → (a b n : ℕ) → item_at (map number_of fs) a ≡ Some n → item_at (map number_of fs) b ≡ Some n → a ≡ b
  children_once i before [] e a b n g h = absurd (cc)
  children_once i before (f ∷ fs) e zero zero n g h = refl
  children_once i before (f ∷ fs) e zero (suc b) n g h =
      let same : number_of f ≡ n = cc in
      absurd (fresh_child i (number_of f ∷ before) fs (later_children i before f fs e) n (at_head (sym same)) (at_place (map number_of fs) b n h))
  children_once i before (f ∷ fs) e (suc a) zero n g h =
      let same : number_of f ≡ n = cc in
      absurd (fresh_child i (number_of f ∷ before) fs (later_children i before f fs e) n (at_head (sym same)) (at_place (map number_of fs) a n g))
  children_once i before (f ∷ fs) e (suc a) (suc b) n g h = ap suc (children_once i (number_of f ∷ before) fs (later_children i before f fs e) a b n g h)

  -- The children of an item without misfits agree with their parent; the item may be missing.
  pub children_agree : (i : ℕ) (o : Option Form) → optional_misfits (λ q fs. lacking 1 q fs ++ children_misfits (Some forms) i [] fs) o ≡ [] → AreChildrenOf labels i (map number_of (entries_or_none o))
  children_agree i None e = record { each = λ n m. elim m [ ]; once = λ a b n g h. absurd (cc) }
  children_agree i (Some f) e =
      let fit = none_behind (lacking 1 (place_of f) (forms_after_head f)) (children_misfits (Some forms) i [] (forms_after_head f)) e in
      record { each = λ n m. has_parent_label i n (each_child i [] (forms_after_head f) fit n m); once = children_once i [] (forms_after_head f) fit }

  -- ---- marks

  -- A label that a number names is there.
  label_named : (at : Place) (fs : List Form) → entries_misfits (number_misfits (is_label_in (Some forms)) ∷ []) at fs ≡ [] → number_stated fs < length labels
  label_named at [] e = absurd (cc)
  label_named at (f ∷ fs) e =
      subst (λ (n : ℕ). number_of f < n) (sym (length-map forms (label_of p)))
      (ltb-true (number_of f) (length forms) (number_fits (is_label_in (Some forms)) f (none_before (number_misfits (is_label_in (Some forms)) f) (entries_misfits [] at fs) e)))

  -- What is asked behind `seen` and `instance-of`.
  named_kind : (c d l : Bool) (at : Place) (fs : List Form)
      → entries_misfits (if c || (d || false) then number_misfits (is_label_in (Some forms)) ∷ [] else if l then symbol_misfits (λ t. is_one_of t (codes "steps" ∷ codes "strands" ∷ [])) ∷ [] else []) at fs ≡ []
      → (c ≡ true) ⊎ (d ≡ true) → number_stated fs < length labels
  named_kind true d l at fs e h = label_named at fs e
  named_kind false true l at fs e h = label_named at fs e
  named_kind false false l at fs e (inl h) = absurd (cc)
  named_kind false false l at fs e (inr h) = absurd (cc)

  -- The labels that a mark names are there,
  mark_by_words : (a b c d l : Bool) (n : ℕ) → ((c ≡ true) ⊎ (d ≡ true) → n < length labels)
      → IsMarkIn labels (if a then shape else if b then dead else if c then seen n else if d then instance_of n else if l then limit_steps else limit_strands)
  mark_by_words true b c d l n h = tt
  mark_by_words false true c d l n h = tt
  mark_by_words false false true d l n h = h (inl refl)
  mark_by_words false false false true l n h = h (inr refl)
  mark_by_words false false false false true n h = tt
  mark_by_words false false false false false n h = tt

  -- where its entries have no misfit.
  mark_there : (at : Place) (head : List ℕ) (fs : List Form) → entries_misfits (mark_kinds (Some forms) head) at fs ≡ [] → IsMarkIn labels (mark_named head fs)
  mark_there at head fs e =
      mark_by_words (same_text head (codes "shape")) (same_text head (codes "dead")) (same_text head (codes "seen")) (same_text head (codes "instance-of")) (same_text (name_in_front fs) (codes "steps")) (number_stated fs)
      (named_kind (same_text head (codes "seen")) (same_text head (codes "instance-of")) (same_text head (codes "limit")) at fs e)

  -- The mark that an item states, if it is there.
  abbrev pub mark_from : Option Form → Option Mark
  mark_from None = None
  mark_from (Some f) = mark_of (headed f)

  -- Where children are asked for, there is one.
  some_children : (o : Option Form) (inside : List Form → List Place) → is_known o ≡ true → optional_misfits (λ q fs. lacking 1 q fs ++ inside fs) o ≡ [] → map number_of (entries_or_none o) ≢ []
  some_children None inside k e = absurd (cc)
  some_children (Some f) inside k e = by (forms_after_head f) (none_before (lacking 1 (place_of f) (forms_after_head f)) (inside (forms_after_head f)) e)
    where
      by : (fs : List Form) → lacking 1 (place_of f) fs ≡ [] → map number_of fs ≢ []
      by [] h = absurd (cc)
      by (g ∷ fs) h = λ q. cc

  -- No children stand in an item that is missing.
  no_children : (o : Option Form) → is_known o ≡ false → map number_of (entries_or_none o) ≡ []
  no_children None e = refl
  no_children (Some f) e = absurd (cc)

  -- The mark of a list with a head.
  headed_mark : (at : Place) (o : Option Headed) (children : List ℕ) → is_headed_by mark_heads o ≡ true → headed_mark_misfits (Some forms) at o ≡ [] → children ≡ [] → HasMarkOrChildren labels (mark_of o) children
  headed_mark at None children h e c = absurd (cc)
  headed_mark at (Some x) children h e c = (mark_there at x.head x.items e, c)

  -- What is asked of a mark, where `has_children` says whether there are children.
  abbrev pub mark_item_misfits : Bool → Option Form → List Place
  mark_item_misfits has_children None = []
  mark_item_misfits has_children (Some f) = misfit_unless (not has_children) (place_of f) ++ headed_mark_misfits (Some forms) (place_of f) (headed f)

  -- A label without misfits has a mark or children.
  pub mark_or_children : (i : ℕ) (m c : Option Form) → ((f : Form) → m ≡ Some f → has_head mark_heads f ≡ true) → (is_known c || is_known m) ≡ true → mark_item_misfits (is_known c) m ≡ []
      → optional_misfits (λ q fs. lacking 1 q fs ++ children_misfits (Some forms) i [] fs) c ≡ [] → HasMarkOrChildren labels (mark_from m) (map number_of (entries_or_none c))
  mark_or_children i None c found one e h = some_children c (λ fs. children_misfits (Some forms) i [] fs) (known (is_known c) one) h
    where
      known : (b : Bool) → (b || false) ≡ true → b ≡ true
      known true q = refl
      known false q = absurd (cc)
  mark_or_children i (Some f) c found one e h =
      headed_mark (place_of f) (headed f) (map number_of (entries_or_none c)) (found f refl) (none_behind (misfit_unless (not (is_known c)) (place_of f)) (headed_mark_misfits (Some forms) (place_of f) (headed f)) e)
      (no_children c (not-true (is_known c) (holds (not (is_known c)) (place_of f) (none_before (misfit_unless (not (is_known c)) (place_of f)) (headed_mark_misfits (Some forms) (place_of f) (headed f)) e))))
