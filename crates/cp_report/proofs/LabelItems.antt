-- The items of a label form as it is printed stand in order, and each is found by its head.
use Rattle.std.proofs.Common.{◌≡◌, ◌⊎◌, inl, inr, ℕ, List, [], ◌∷◌, ◌++◌, Bool, true, false, refl, sym, ap, ◌∙◌, if◌then◌else◌, append_assoc}
use Rattle.std.specs.Prelude.{Option, Some, None, map, not, codes, ◌&&◌}
use Rattle.std.proofs.lemmas.Bool.{and_parts, not-true}
use Rattle.std.proofs.lemmas.List.{append-nil}
use Rattle.cp_lists.specs.Lists.{IsIn, here, there}
use Rattle.cp_lists.proofs.Members.{in_append, head_or_behind}
use Rattle.cp_lists.proofs.Appended.{none_in_both}
use Rattle.cp_model.specs.Skeleton.{SkeletonStrand, instance, listener}
use Rattle.cp_model.specs.Given.{listed}
use Rattle.cp_model.specs.declared.variable.Variable.{Variable}
use Rattle.cp_model.specs.Strand.{variables_of_prefix}
use Rattle.cp_model.specs.Tree.{Test, Label}
use Rattle.cp_model.specs.declared.tree.Mark.{Mark}
use Rattle.cp_model.specs.declared.tree.Mark.TheVariants.{Shape as shape, Dead as dead, Seen as seen, InstanceOf as instance_of, LimitSteps as limit_steps, LimitStrands as limit_strands}
use Rattle.cp_sexpr.specs.Syntax.{Form}
use Rattle.cp_language.specs.Words.{is_one_of}
use Rattle.cp_language.specs.Faults.{place_of}
use Rattle.cp_language.specs.Problems.{is_not_empty}
use Rattle.cp_language.specs.Printed.{word, numeral, headed_list, plain_list, atom_form, term_form, pattern_form}
use Rattle.cp_language.specs.Report.{occurring, item_unless_empty, named_by, node_form, parent_items, operation_words, vars_from, maplets_from, strand_form, value_forms, covering_pairs, unique_form, map_form, test_items, mark_items, label_items}
use Rattle.cp_language.proofs.ValidTests.{one_of, is_one}
use Rattle.cp_report.specs.Misfits.{misfit_unless}
use Rattle.cp_report.specs.Heads.{has_head, forms_after_head, item_with, items_with, entries_under, Line, once, strand_heads, mark_heads, heads_behind_strands, up_to_strands, lines_of_label, lines_from, lines_behind, order_misfits}
use Rattle.cp_report.proofs.PrintedStrands.{items_back}

-- ---- items in groups

-- The items of one line.
pub record Group : Type 0 where
  pub line : Line
  pub forms : List Form

-- A list with one of these heads.
pub record IsHeadedBy (heads : List (List ℕ)) (f : Form) : Type 0 where
  pub head : List ℕ
  pub items : List Form
  pub form : f ≡ headed_list head items
  pub listed : is_one_of head heads ≡ true

abbrev pub AtMostOne : List Form → Type 0
AtMostOne [] = Unit {0}
AtMostOne (f ∷ []) = Unit {0}
AtMostOne (f ∷ g ∷ fs) = ⊥

abbrev pub AsOften : Bool → List Form → Type 0
AsOften true fs = Unit {0}
AsOften false fs = AtMostOne fs

-- Each item has a head of its line, and stands as often as it may.
abbrev pub IsGroup : Group → Type 0
IsGroup g = ((f : Form) → IsIn f g.forms → IsHeadedBy g.line.heads f) × AsOften g.line.repeats g.forms

abbrev pub AreGroups : List Group → Type 0
AreGroups [] = Unit {0}
AreGroups (g ∷ gs) = IsGroup g × AreGroups gs

abbrev pub all_forms : List Group → List Form
all_forms [] = []
all_forms (g ∷ gs) = g.forms ++ all_forms gs

-- None of the second heads is one of the first.
abbrev pub are_other : List (List ℕ) → List (List ℕ) → Bool
are_other heads [] = true
are_other heads (h ∷ hs) = not (is_one_of h heads) && are_other heads hs

abbrev pub all_other : List (List ℕ) → List Group → Bool
all_other heads [] = true
all_other heads (g ∷ gs) = are_other heads g.line.heads && all_other heads gs

-- The items with these heads, and whether they are of one group alone.
abbrev pub forms_for : List (List ℕ) → List Group → List Form
forms_for heads [] = []
forms_for heads (g ∷ gs) = if are_other heads g.line.heads then forms_for heads gs else g.forms

abbrev pub is_alone : List (List ℕ) → List Group → Bool
is_alone heads [] = true
is_alone heads (g ∷ gs) = if are_other heads g.line.heads then is_alone heads gs else all_other heads gs

abbrev pub are_apart : List Group → Bool
are_apart [] = true
are_apart (g ∷ gs) = all_other g.line.heads gs && are_apart gs

other_head : (heads hs : List (List ℕ)) (h : List ℕ) → are_other heads hs ≡ true → IsIn h hs → is_one_of h heads ≡ false
other_head heads [] h e m = elim m [ ]
other_head heads (g ∷ hs) h e here = not-true (is_one_of h heads) (and_parts (not (is_one_of h heads)) (are_other heads hs) e).0
other_head heads (g ∷ hs) h e (there m) = other_head heads hs h (and_parts (not (is_one_of g heads)) (are_other heads hs) e).1 m

has_its_head : (heads : List (List ℕ)) (f : Form) → IsHeadedBy heads f → has_head heads f ≡ true
has_its_head heads f h = ap (has_head heads) h.form ∙ h.listed

has_no_other : (heads hs : List (List ℕ)) (f : Form) → are_other heads hs ≡ true → IsHeadedBy hs f → has_head heads f ≡ false
has_no_other heads hs f e h = ap (has_head heads) h.form ∙ other_head heads hs h.head e (one_of h.head hs h.listed)

-- None of the forms has one of these heads.
abbrev pub Lack : List (List ℕ) → List Form → Type 0
Lack heads fs = (f : Form) → IsIn f fs → has_head heads f ≡ false

group_lacks : (heads : List (List ℕ)) (g : Group) → IsGroup g → are_other heads g.line.heads ≡ true → Lack heads g.forms
group_lacks heads g is e f m = has_no_other heads g.line.heads f e (is.0 f m)

all_lack : (heads : List (List ℕ)) (gs : List Group) → AreGroups gs → all_other heads gs ≡ true → Lack heads (all_forms gs)
all_lack heads [] are e f m = elim m [ ]
all_lack heads (g ∷ gs) are e f m = by (in_append g.forms (all_forms gs) m) (λ i. all_lack heads gs are.1 two.1 f i)
  where
    two : (are_other heads g.line.heads ≡ true) × (all_other heads gs ≡ true)
    two = and_parts (are_other heads g.line.heads) (all_other heads gs) e

    by : IsIn f g.forms ⊎ IsIn f (all_forms gs) → (IsIn f (all_forms gs) → has_head heads f ≡ false) → has_head heads f ≡ false
    by (inl i) rest = group_lacks heads g are.0 two.0 f i
    by (inr i) rest = rest i

-- ---- items are found

module _ (heads : List (List ℕ)) where
  -- What goes past forms that lack the heads, in front and at the end, finds in all groups what it finds in its own.
  of_group : {A : Type 0} (find : List Form → A) → ((fs gs : List Form) → Lack heads fs → find (fs ++ gs) ≡ find gs) → ((fs gs : List Form) → Lack heads gs → find (fs ++ gs) ≡ find fs)
      → (gs : List Group) → AreGroups gs → is_alone heads gs ≡ true → find (all_forms gs) ≡ find (forms_for heads gs)
  of_group find skips stays [] are e = refl
  of_group find skips stays (g ∷ gs) are e = by (are_other heads g.line.heads) refl e (of_group find skips stays gs are.1)
    where
      by : (b : Bool) → are_other heads g.line.heads ≡ b → (if b then is_alone heads gs else all_other heads gs) ≡ true → (is_alone heads gs ≡ true → find (all_forms gs) ≡ find (forms_for heads gs))
          → find (g.forms ++ all_forms gs) ≡ find (if b then forms_for heads gs else g.forms)
      by true p q rest = skips g.forms (all_forms gs) (group_lacks heads g are.0 p) ∙ rest q
      by false p q rest = stays g.forms (all_forms gs) (all_lack heads gs are.1 q)

  skip_item : (fs gs : List Form) → Lack heads fs → item_with heads (fs ++ gs) ≡ item_with heads gs
  skip_item [] gs l = refl
  skip_item (f ∷ fs) gs l = ap (λ (b : Bool). if b then Some f else item_with heads (fs ++ gs)) (l f here) ∙ skip_item fs gs (λ h m. l h (there m))

  no_item : (fs : List Form) → Lack heads fs → item_with heads fs ≡ None
  no_item [] l = refl
  no_item (f ∷ fs) l = ap (λ (b : Bool). if b then Some f else item_with heads fs) (l f here) ∙ no_item fs (λ h m. l h (there m))

  item_stays : (fs gs : List Form) → Lack heads gs → item_with heads (fs ++ gs) ≡ item_with heads fs
  item_stays [] gs l = no_item gs l
  item_stays (f ∷ fs) gs l = ap (λ (o : Option Form). if has_head heads f then Some f else o) (item_stays fs gs l)

  -- The item with these heads is that of its group.
  pub item_found : (gs : List Group) → AreGroups gs → is_alone heads gs ≡ true → item_with heads (all_forms gs) ≡ item_with heads (forms_for heads gs)
  item_found = of_group (item_with heads) skip_item item_stays

  skip_items : (fs gs : List Form) → Lack heads fs → items_with heads (fs ++ gs) ≡ items_with heads gs
  skip_items [] gs l = refl
  skip_items (f ∷ fs) gs l = ap (λ (b : Bool). if b then f ∷ items_with heads (fs ++ gs) else items_with heads (fs ++ gs)) (l f here) ∙ skip_items fs gs (λ h m. l h (there m))

  no_items : (fs : List Form) → Lack heads fs → items_with heads fs ≡ []
  no_items [] l = refl
  no_items (f ∷ fs) l = ap (λ (b : Bool). if b then f ∷ items_with heads fs else items_with heads fs) (l f here) ∙ no_items fs (λ h m. l h (there m))

  items_stay : (fs gs : List Form) → Lack heads gs → items_with heads (fs ++ gs) ≡ items_with heads fs
  items_stay [] gs l = no_items gs l
  items_stay (f ∷ fs) gs l = ap (λ (hs : List Form). if has_head heads f then f ∷ hs else hs) (items_stay fs gs l)

  -- The items with these heads are those of their group.
  pub items_found : (gs : List Group) → AreGroups gs → is_alone heads gs ≡ true → items_with heads (all_forms gs) ≡ items_with heads (forms_for heads gs)
  items_found = of_group (items_with heads) skip_items items_stay

-- all of these have the heads
pub all_with : (heads : List (List ℕ)) (fs : List Form) → ((f : Form) → IsIn f fs → IsHeadedBy heads f) → items_with heads fs ≡ fs
all_with heads [] h = refl
all_with heads (f ∷ fs) h =
    ap (λ (b : Bool). if b then f ∷ items_with heads fs else items_with heads fs) (has_its_head heads f (h f here)) ∙ ap (λ (gs : List Form). f ∷ gs) (all_with heads fs (λ g m. h g (there m)))

-- ---- items stand in order

abbrev pub lines_of : List Group → List Line
lines_of [] = []
lines_of (g ∷ gs) = g.line ∷ lines_of gs

-- A line none of whose items stands may stand in front.
skip_line : (l : Line) (ls : List Line) (fs : List Form) → Lack l.heads fs → order_misfits ls fs ≡ [] → order_misfits (l ∷ ls) fs ≡ []
skip_line l ls [] lack e = refl
skip_line l ls (f ∷ fs) lack e =
    ap (λ (b : Bool). misfit_unless (is_not_empty (if b then l ∷ ls else lines_from f ls)) (place_of f) ++ order_misfits (lines_behind (l ∷ ls) (if b then l ∷ ls else lines_from f ls)) fs) (lack f here)
    ∙ by (lines_from f ls) e
  where
    by : (ms : List Line) → misfit_unless (is_not_empty ms) (place_of f) ++ order_misfits (lines_behind ls ms) fs ≡ [] → misfit_unless (is_not_empty ms) (place_of f) ++ order_misfits (lines_behind (l ∷ ls) ms) fs ≡ []
    by [] h = let g = h in absurd (cc)
    by (m ∷ ms) h = h

-- items of one line
own_line : (l : Line) (ls : List Line) (f : Form) (fs : List Form) → IsHeadedBy l.heads f → order_misfits (if l.repeats then l ∷ ls else ls) fs ≡ [] → order_misfits (l ∷ ls) (f ∷ fs) ≡ []
own_line l ls f fs h e =
    ap (λ (b : Bool). misfit_unless (is_not_empty (if b then l ∷ ls else lines_from f ls)) (place_of f) ++ order_misfits (lines_behind (l ∷ ls) (if b then l ∷ ls else lines_from f ls)) fs) (has_its_head l.heads f h) ∙ e

repeated : (l : Line) (ls : List Line) (fs gs : List Form) → l.repeats ≡ true → ((f : Form) → IsIn f fs → IsHeadedBy l.heads f) → order_misfits (l ∷ ls) gs ≡ [] → order_misfits (l ∷ ls) (fs ++ gs) ≡ []
repeated l ls [] gs r h e = e
repeated l ls (f ∷ fs) gs r h e =
    own_line l ls f (fs ++ gs) (h f here) (ap (λ (b : Bool). order_misfits (if b then l ∷ ls else ls) (fs ++ gs)) r ∙ repeated l ls fs gs r (λ g m. h g (there m)) e)

single : (l : Line) (ls : List Line) (fs gs : List Form) → l.repeats ≡ false → AtMostOne fs → ((f : Form) → IsIn f fs → IsHeadedBy l.heads f) → Lack l.heads gs → order_misfits ls gs ≡ [] → order_misfits (l ∷ ls) (fs ++ gs) ≡ []
single l ls [] gs r one h lack e = skip_line l ls gs lack e
single l ls (f ∷ []) gs r one h lack e = own_line l ls f gs (h f here) (ap (λ (b : Bool). order_misfits (if b then l ∷ ls else ls) gs) r ∙ e)
single l ls (f ∷ g ∷ fs) gs r one h lack e = absurd one

-- Groups whose heads are different stand in the order of their lines.
pub in_order : (gs : List Group) → AreGroups gs → are_apart gs ≡ true → order_misfits (lines_of gs) (all_forms gs) ≡ []
in_order [] are e = refl
in_order (g ∷ gs) are e = by (g.line.repeats) refl are.0.1 (in_order gs are.1 two.1)
  where
    two : (all_other g.line.heads gs ≡ true) × (are_apart gs ≡ true)
    two = and_parts (all_other g.line.heads gs) (are_apart gs) e

    lack : Lack g.line.heads (all_forms gs)
    lack = all_lack g.line.heads gs are.1 two.0

    by : (b : Bool) → g.line.repeats ≡ b → AsOften b g.forms → order_misfits (lines_of gs) (all_forms gs) ≡ [] → order_misfits (g.line ∷ lines_of gs) (g.forms ++ all_forms gs) ≡ []
    by true r often rest = repeated g.line (lines_of gs) g.forms (all_forms gs) r are.0.0 (skip_line g.line (lines_of gs) (all_forms gs) lack rest)
    by false r often rest = single g.line (lines_of gs) g.forms (all_forms gs) r often are.0.0 lack rest

-- ---- the items of a label form

abbrev pub unless_empty : List ℕ → List Form → Group
unless_empty head fs = record { line = once head; forms = item_unless_empty head fs }

abbrev pub label_groups : List (List ℕ) → List (List ℕ) → Label → List Group
label_groups of_problem names l =
    record { line = once (codes "parent"); forms = parent_items l.parent }
    ∷ record { line = once (codes "by"); forms = headed_list (codes "by") (operation_words l.operation) ∷ [] }
    ∷ unless_empty (codes "vars") (vars_from names (occurring l) 0 l.skeleton.variables)
    ∷ record { line = record { heads = strand_heads; repeats = true }; forms = map (strand_form (named_by names)) l.skeleton.strands }
    ∷ unless_empty (codes "precedes") (covering_pairs l.skeleton)
    ∷ unless_empty (codes "non-orig") (map (atom_form (named_by names)) (listed l.skeleton).non_originating)
    ∷ unless_empty (codes "pen-non-orig") (map (atom_form (named_by names)) (listed l.skeleton).penetrator_non_originating)
    ∷ unless_empty (codes "uniq-orig") (map (unique_form (named_by names)) (listed l.skeleton).uniquely_originating)
    ∷ record { line = once (codes "map"); forms = map_form (named_by names) of_problem l.skeleton ∷ [] }
    ∷ unless_empty (codes "unrealised") (map node_form l.unrealised)
    ∷ record { line = once (codes "test"); forms = test_items (named_by names) l.test }
    ∷ unless_empty (codes "escape") (map (pattern_form (named_by names)) l.escape)
    ∷ unless_empty (codes "children") (map numeral l.children)
    ∷ record { line = record { heads = mark_heads; repeats = false }; forms = mark_items l.mark } ∷ []

abbrev joined_onto : List Form → List Group → List Form
joined_onto before [] = before
joined_onto before (g ∷ gs) = joined_onto (before ++ g.forms) gs

joined : (before : List Form) (gs : List Group) → joined_onto before gs ≡ before ++ all_forms gs
joined before [] = sym (append-nil before)
joined before (g ∷ gs) = joined (before ++ g.forms) gs ∙ append_assoc before g.forms (all_forms gs)

-- The items of a label form are these groups, one behind the other.
pub label_in_groups : (of_problem names : List (List ℕ)) (l : Label) → label_items of_problem names l ≡ all_forms (label_groups of_problem names l)
label_in_groups of_problem names l = joined [] (label_groups of_problem names l)

only_headed : (heads : List (List ℕ)) (h : List ℕ) (fs : List Form) → is_one_of h heads ≡ true → (f : Form) → IsIn f (headed_list h fs ∷ []) → IsHeadedBy heads f
only_headed heads h fs e f m = by (head_or_behind m)
  where
    by : (f ≡ headed_list h fs) ⊎ IsIn f [] → IsHeadedBy heads f
    by (inl same) = record { head = h; items = fs; form = same; listed = e }
    by (inr i) = elim i [ ]

empty_or_one : (head : List ℕ) (fs : List Form) → IsGroup (unless_empty head fs)
empty_or_one head [] = ((λ f m. elim m [ ]), tt)
empty_or_one head (f ∷ fs) = (only_headed (head ∷ []) head (f ∷ fs) (is_one head (head ∷ []) here), tt)

parent_group : (o : Option ℕ) → IsGroup (record { line = once (codes "parent"); forms = parent_items o })
parent_group None = ((λ f m. elim m [ ]), tt)
parent_group (Some n) = (only_headed (codes "parent" ∷ []) (codes "parent") (numeral n ∷ []) refl, tt)

test_group : (named : Variable → Form) (o : Option Test) → IsGroup (record { line = once (codes "test"); forms = test_items named o })
test_group named None = ((λ f m. elim m [ ]), tt)
test_group named (Some t) = (only_headed (codes "test" ∷ []) (codes "test") (node_form t.node ∷ term_form named t.critical ∷ []) refl, tt)

mark_group : (o : Option Mark) → IsGroup (record { line = record { heads = mark_heads; repeats = false }; forms = mark_items o })
mark_group None = ((λ f m. elim m [ ]), tt)
mark_group (Some shape) = (only_headed mark_heads (codes "shape") [] refl, tt)
mark_group (Some dead) = (only_headed mark_heads (codes "dead") [] refl, tt)
mark_group (Some (seen n)) = (only_headed mark_heads (codes "seen") (numeral n ∷ []) refl, tt)
mark_group (Some (instance_of n)) = (only_headed mark_heads (codes "instance-of") (numeral n ∷ []) refl, tt)
mark_group (Some limit_steps) = (only_headed mark_heads (codes "limit") (word (codes "steps") ∷ []) refl, tt)
mark_group (Some limit_strands) = (only_headed mark_heads (codes "limit") (word (codes "strands") ∷ []) refl, tt)

pub strand_headed : (named : Variable → Form) (ks : List SkeletonStrand) (f : Form) → IsIn f (map (strand_form named) ks) → IsHeadedBy strand_heads f
strand_headed named [] f m = elim m [ ]
strand_headed named (k ∷ ks) f m = by k (head_or_behind m) (strand_headed named ks f)
  where
    by : (j : SkeletonStrand) → (f ≡ strand_form named j) ⊎ IsIn f (map (strand_form named) ks) → (IsIn f (map (strand_form named) ks) → IsHeadedBy strand_heads f) → IsHeadedBy strand_heads f
    by (instance role height terms) (inl e) rest = record { head = codes "defstrand"; items = word role.name ∷ numeral height ∷ maplets_from named (variables_of_prefix role height) terms 0 role.variables; form = e; listed = refl }
    by (listener t) (inl e) rest = record { head = codes "deflistener"; items = term_form named t ∷ []; form = e; listed = refl }
    by j (inr i) rest = rest i

pub label_groups_are : (of_problem names : List (List ℕ)) (l : Label) → AreGroups (label_groups of_problem names l)
label_groups_are of_problem names l = (
  parent_group l.parent,
  (
    (only_headed (codes "by" ∷ []) (codes "by") (operation_words l.operation) refl, tt),
    (
      empty_or_one (codes "vars") (vars_from names (occurring l) 0 l.skeleton.variables),
      (
        (strand_headed (named_by names) l.skeleton.strands, tt),
        (
          empty_or_one (codes "precedes") (covering_pairs l.skeleton),
          (
            empty_or_one (codes "non-orig") (map (atom_form (named_by names)) (listed l.skeleton).non_originating),
            (
              empty_or_one (codes "pen-non-orig") (map (atom_form (named_by names)) (listed l.skeleton).penetrator_non_originating),
              (
                empty_or_one (codes "uniq-orig") (map (unique_form (named_by names)) (listed l.skeleton).uniquely_originating),
                (
                  (only_headed (codes "map" ∷ []) (codes "map") (plain_list (map numeral l.skeleton.from_problem.strands) ∷ value_forms (named_by names) of_problem l.skeleton.from_problem.values) refl, tt),
                  (
                    empty_or_one (codes "unrealised") (map node_form l.unrealised),
                    (
                      test_group (named_by names) l.test,
                      (
                        empty_or_one (codes "escape") (map (pattern_form (named_by names)) l.escape),
                        (empty_or_one (codes "children") (map numeral l.children), (mark_group l.mark, tt)),
                      ),
                    ),
                  ),
                ),
              ),
            ),
          ),
        ),
      ),
    ),
  ),
)

-- The items of a label form stand in order.
pub label_items_in_order : (of_problem names : List (List ℕ)) (l : Label) → order_misfits lines_of_label (label_items of_problem names l) ≡ []
label_items_in_order of_problem names l = ap (order_misfits lines_of_label) (label_in_groups of_problem names l) ∙ in_order (label_groups of_problem names l) (label_groups_are of_problem names l) refl

-- Where all items stand in order, those up to the strands do.
pub front_in_order : (lines : List Line) (items : List Form) → order_misfits lines items ≡ [] → order_misfits lines (up_to_strands items) ≡ []
front_in_order lines [] e = refl
front_in_order lines (f ∷ fs) e =
    let parts = none_in_both (misfit_unless (is_not_empty (lines_from f lines)) (place_of f)) (order_misfits (lines_behind lines (lines_from f lines)) fs) e in
    by (has_head heads_behind_strands f)
    (ap (λ ps. ps ++ order_misfits (lines_behind lines (lines_from f lines)) (up_to_strands fs)) parts.0 ∙ front_in_order (lines_behind lines (lines_from f lines)) fs parts.1)
  where
    by : (b : Bool) → order_misfits lines (f ∷ up_to_strands fs) ≡ [] → order_misfits lines (if b then [] else f ∷ up_to_strands fs) ≡ []
    by true g = refl
    by false g = g

-- What is listed under a head, whether the item is left out or not.
pub listed_under : (head : List ℕ) (fs : List Form) → entries_under head (item_unless_empty head fs) ≡ fs
listed_under head [] = refl
listed_under head (f ∷ fs) = ap (λ (b : Bool). entries (if b then Some (headed_list head (f ∷ fs)) else None)) (is_one head (head ∷ []) here) ∙ items_back (f ∷ fs)
  where
    entries : Option Form → List Form
    entries None = []
    entries (Some g) = forms_after_head g
