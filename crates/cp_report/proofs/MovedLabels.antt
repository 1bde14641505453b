-- Where a label form stands does not matter for whether it fits, nor for the label that it denotes.
use Rattle.std.proofs.Common.{◌≡◌, ℕ, List, [], ◌∷◌, ◌++◌, true, false, refl, ◌∙◌, ap}
use Rattle.std.specs.Prelude.{Bool, Option, Some, None, map, not, codes, drop, option_map, ◌==◌, ◌&&◌, ◌||◌, if◌then◌else◌}
use Rattle.cp_base.specs.declared.place.Place.{Place}
use Rattle.cp_model.specs.Skeleton.{SkeletonStrand}
use Rattle.cp_model.specs.declared.tree.Mark.{Mark}
use Rattle.cp_model.specs.declared.tree.Mark.TheVariants.{Shape as shape, Dead as dead, Seen as seen, InstanceOf as instance_of, LimitSteps as limit_steps, LimitStrands as limit_strands}
use Rattle.cp_model.specs.Same.{same_text}
use Rattle.cp_sexpr.specs.Syntax.{Form, symbol, string, number, list, none, more}
use Rattle.cp_sexpr.specs.Pieces.{start}
use Rattle.cp_sexpr.specs.ReadBack.{unplaced}
use Rattle.cp_language.specs.Words.{is_one_of}
use Rattle.cp_language.specs.Faults.{place_of}
use Rattle.cp_language.specs.Roles.{Headed, headed}
use Rattle.cp_language.specs.Problems.{is_known, is_not_empty, first_form, second_form, number_of, option_node, Problem}
use Rattle.cp_report.specs.Misfits.{first_or, lacking, each_misfits, entries_misfits, number_misfits, symbol_misfits}
use Rattle.cp_report.specs.Heads.{forms_after_head, item_with, entries_under, optional_misfits, mark_heads, heads_behind_strands, up_to_strands, Line, lines_of_label, lines_from, lines_behind, order_misfits, has_head}
use Rattle.cp_report.specs.Spelled.{Scope, term_misfits, pattern_misfits, pattern_of}
use Rattle.cp_report.specs.Skeletons.{declarations_of_label, scope_of, term_or_tag, node_misfits, node_or_first, strands_of_label, around_strands_misfits}
use Rattle.cp_report.specs.Labels.{number_in_front, behind_number, items_of_label, is_label_in, parent_misfits, children_misfits, is_operation, makes_root, operation_misfits, operation_place_misfits, operation_by, word_of_label, unrealised_misfits, test_misfits, escape_misfits, test_of, mark_kinds, mark_named, mark_of, mark_in, has_children, has_mark, headed_mark_misfits, mark_misfits, no_parent_misfits, wants_parent, missing_misfits, about_strands_misfits, items_misfits, numbered_misfits, label_misfits, label_by, label_of}
use Rattle.cp_report.proofs.Moved.{at_start, all_moved, IsMovedInside, both, unless_moved, where_moved, test_moved, place_moved, items_moved, head_moved, entries_moved, lacking_moved, each_moved, AreMoved, entries_misfits_moved, symbol_moved, number_moved}
use Rattle.cp_report.proofs.MovedTerms.{test_at_form, term_moved}
use Rattle.cp_report.proofs.MovedItems.{map_moved, item_moved, entries_under_moved, number_of_moved, first_moved, second_moved, name_in_front_moved, scope_moved, term_or_tag_moved, option_node_moved, node_moved}
use Rattle.cp_report.proofs.MovedSkeletons.{strands_moved, node_misfits_moved}
use Rattle.cp_report.proofs.MovedStated.{item_misfits_moved, skeleton_moved, vars_item_moved, strands_misfits_moved, around_moved}
use Rattle.cp_report.proofs.MovedPatterns.{pattern_misfits_moved, pattern_moved}
use Rattle.cp_report.proofs.MovedNumbers.{in_front_moved, rest_moved, behind_number_moved, label_items_moved, tree_moved, label_number_moved, parent_misfits_moved, children_misfits_moved, operation_misfits_moved, operation_place_moved, number_stated_moved, operation_by_moved, word_moved}

-- ---- the order of items

lines_moved : (lines : List Line) (f : Form) → lines_from (unplaced f) lines ≡ lines_from f lines
lines_moved [] f = refl
lines_moved (l ∷ ls) f =
    ap (λ b. if b then l ∷ ls else lines_from (unplaced f) ls) (head_moved l.heads f) ∙ ap (λ ks. if has_head l.heads f then l ∷ ls else ks) (lines_moved ls f)

order_moved : (lines : List Line) (fs : List Form) → order_misfits lines (all_moved fs) ≡ at_start (order_misfits lines fs)
order_moved lines [] = refl
order_moved lines (f ∷ fs) =
    both _ _ _ _
    (test_at_form _ _ f (ap is_not_empty (lines_moved lines f)))
    (ap (λ ks. order_misfits (lines_behind lines ks) (all_moved fs)) (lines_moved lines f) ∙ order_moved (lines_behind lines (lines_from f lines)) fs)

front_moved : (fs : List Form) → up_to_strands (all_moved fs) ≡ all_moved (up_to_strands fs)
front_moved [] = refl
front_moved (f ∷ fs) =
    ap (λ b. if b then [] else unplaced f ∷ up_to_strands (all_moved fs)) (head_moved heads_behind_strands f)
    ∙ ap (λ gs. if has_head heads_behind_strands f then [] else unplaced f ∷ gs) (front_moved fs) ∙ by (has_head heads_behind_strands f)
  where
    by : (b : Bool) → (if b then [] else unplaced f ∷ all_moved (up_to_strands fs)) ≡ all_moved (if b then [] else f ∷ up_to_strands fs)
    by true = refl
    by false = refl

front_order_moved : (items : List Form) → order_misfits lines_of_label (up_to_strands (all_moved items)) ≡ at_start (order_misfits lines_of_label (up_to_strands items))
front_order_moved items = ap (order_misfits lines_of_label) (front_moved items) ∙ order_moved lines_of_label (up_to_strands items)

first_at_start : (ps : List Place) → first_or start (at_start ps) ≡ start
first_at_start [] = refl
first_at_start (p ∷ ps) = refl

-- ---- items that are there

known_moved : (o : Option Form) → is_known (option_map unplaced o) ≡ is_known o
known_moved None = refl
known_moved (Some f) = refl

item_known_moved : (heads : List (List ℕ)) (items : List Form) → is_known (item_with heads (all_moved items)) ≡ is_known (item_with heads items)
item_known_moved heads items = ap is_known (item_moved heads items) ∙ known_moved (item_with heads items)

unrealised_moved : (strands : List SkeletonStrand) → IsMovedInside (unrealised_misfits strands)
unrealised_moved strands at fs = both _ _ _ _ (lacking_moved 1 at fs) (each_moved (node_misfits strands) (node_misfits_moved strands) fs)

test_misfits_moved : (s : Scope) (strands : List SkeletonStrand) → IsMovedInside (test_misfits s strands)
test_misfits_moved s strands at fs = entries_misfits_moved (node_misfits strands ∷ term_misfits s ∷ []) at fs (node_misfits_moved strands, (term_moved s, tt))

declarations_moved : (items : List Form) → declarations_of_label (all_moved items) ≡ declarations_of_label items
declarations_moved items = ap (λ s. s.variables) (scope_moved items)

escape_moved : (items : List Form) (at : Place) (fs : List Form) → escape_misfits (all_moved items) start (all_moved fs) ≡ at_start (escape_misfits items at fs)
escape_moved items at fs =
    both _ _ _ _ (both _ _ _ _ (test_moved _ (is_known (item_with (codes "test" ∷ []) items)) at (item_known_moved (codes "test" ∷ []) items)) (lacking_moved 1 at fs))
    (ap (λ ds. each_misfits (pattern_misfits ds) (all_moved fs)) (declarations_moved items)
    ∙ each_moved (pattern_misfits (declarations_of_label items)) (pattern_misfits_moved (declarations_of_label items)) fs)

test_same : (s : Scope) (o : Option Form) → test_of s (option_map unplaced o) ≡ test_of s o
test_same s None = refl
test_same s (Some f) =
    let n = ap node_or_first (ap (λ gs. option_node (first_form gs)) (entries_moved f) ∙ ap option_node (first_moved (forms_after_head f)) ∙ option_node_moved (first_form (forms_after_head f))) in
    let t = ap (λ gs. term_or_tag s (second_form gs)) (entries_moved f) ∙ ap (term_or_tag s) (second_moved (forms_after_head f)) ∙ term_or_tag_moved s (second_form (forms_after_head f)) in
    λ i. Some (record { node = n i; critical = t i })

-- ---- marks

-- The same list, at one place.
abbrev pub headed_at_start : Headed → Headed
headed_at_start h = record { at = start; head = h.head; items = all_moved h.items }

pub headed_moved : (f : Form) → headed (unplaced f) ≡ option_map headed_at_start (headed f)
headed_moved (symbol at t) = refl
headed_moved (string at t) = refl
headed_moved (number at n) = refl
headed_moved (list at none) = refl
headed_moved (list at (more (symbol p t) fs)) = ap (λ gs. Some (record { at = start; head = t; items = gs })) (items_moved fs)
headed_moved (list at (more (string p t) fs)) = refl
headed_moved (list at (more (number p n) fs)) = refl
headed_moved (list at (more (list p gs) fs)) = refl

mark_by_moved : (head : List ℕ) (fs : List Form) → mark_named head (all_moved fs) ≡ mark_named head fs
mark_by_moved head fs =
    let n = number_stated_moved fs in let t = name_in_front_moved fs in
    λ i. if same_text head (codes "shape") then shape else
    if same_text head (codes "dead") then dead else
    if same_text head (codes "seen") then seen (n i) else
    if same_text head (codes "instance-of") then instance_of (n i) else
    if same_text (t i) (codes "steps") then limit_steps else limit_strands

mark_of_moved : (o : Option Headed) → mark_of (option_map headed_at_start o) ≡ mark_of o
mark_of_moved None = refl
mark_of_moved (Some h) = ap Some (mark_by_moved h.head h.items)

mark_in_moved : (items : List Form) → mark_in (all_moved items) ≡ mark_in items
mark_in_moved items = ap from (item_moved mark_heads items) ∙ by (item_with mark_heads items)
  where
    from : Option Form → Option Mark
    from None = None
    from (Some f) = mark_of (headed f)

    by : (o : Option Form) → from (option_map unplaced o) ≡ from o
    by None = refl
    by (Some f) = ap mark_of (headed_moved f) ∙ mark_of_moved (headed f)

mark_kinds_moved : (tree : Option (List Form)) (head : List ℕ) → AreMoved (mark_kinds tree head)
mark_kinds_moved tree head = by (is_one_of head (codes "seen" ∷ codes "instance-of" ∷ [])) (same_text head (codes "limit"))
  where
    by : (a b : Bool) → AreMoved (if a then number_misfits (is_label_in tree) ∷ [] else if b then symbol_misfits (λ t. is_one_of t (codes "steps" ∷ codes "strands" ∷ [])) ∷ [] else [])
    by true b = (number_moved (is_label_in tree), tt)
    by false true = (symbol_moved (λ t. is_one_of t (codes "steps" ∷ codes "strands" ∷ [])), tt)
    by false false = tt

mark_kinds_same : (tree : Option (List Form)) (head : List ℕ) → mark_kinds (tree_moved tree) head ≡ mark_kinds tree head
mark_kinds_same tree head =
    ap (λ g. if is_one_of head (codes "seen" ∷ codes "instance-of" ∷ []) then number_misfits g ∷ [] else
    if same_text head (codes "limit") then symbol_misfits (λ t. is_one_of t (codes "steps" ∷ codes "strands" ∷ [])) ∷ [] else []) (label_number_moved tree)

headed_mark_moved : (tree : Option (List Form)) (at : Place) (o : Option Headed) → headed_mark_misfits (tree_moved tree) start (option_map headed_at_start o) ≡ at_start (headed_mark_misfits tree at o)
headed_mark_moved tree at None = refl
headed_mark_moved tree at (Some h) =
    ap (λ ks. entries_misfits ks start (all_moved h.items)) (mark_kinds_same tree h.head) ∙ entries_misfits_moved (mark_kinds tree h.head) at h.items (mark_kinds_moved tree h.head)

mark_misfits_moved : (tree : Option (List Form)) (items : List Form) (o : Option Form) → mark_misfits (tree_moved tree) (all_moved items) (option_map unplaced o) ≡ at_start (mark_misfits tree items o)
mark_misfits_moved tree items None = refl
mark_misfits_moved tree items (Some f) =
    both _ _ _ _
    (test_at_form _ (not (has_children items)) f (ap not (item_known_moved (codes "children" ∷ []) items)))
    (ap (λ p. headed_mark_misfits (tree_moved tree) p (headed (unplaced f))) (place_moved f)
    ∙ ap (headed_mark_misfits (tree_moved tree) start) (headed_moved f) ∙ headed_mark_moved tree (place_of f) (headed f))

-- ---- all items

no_parent_moved : (items : List Form) (at : Place) (fs : List Form) → no_parent_misfits (all_moved items) start (all_moved fs) ≡ at_start (no_parent_misfits items at fs)
no_parent_moved items at fs = test_moved _ (not (makes_root (word_of_label items))) at (ap (λ w. not (makes_root w)) (word_moved items))

missing_moved : (at : Place) (items : List Form) → missing_misfits start (all_moved items) ≡ at_start (missing_misfits at items)
missing_moved at items =
    let a = item_known_moved mark_heads items in let b = item_known_moved (codes "children" ∷ []) items in
    let w = word_moved items in let q = item_known_moved (codes "parent" ∷ []) items in
    both _ _ _ _ (both _ _ _ _ (both _ _ _ _
    (test_moved _ _ at (item_known_moved (codes "by" ∷ []) items))
    (test_moved _ _ at (item_known_moved (codes "map" ∷ []) items)))
    (test_moved _ (has_children items || has_mark items) at (λ i. b i || a i)))
    (test_moved _ (not (wants_parent items) || is_known (item_with (codes "parent" ∷ []) items)) at (λ i. not (is_operation (w i) && not (makes_root (w i))) || q i))

about_moved : (p : Problem) (items : List Form) → about_strands_misfits p (all_moved items) ≡ at_start (about_strands_misfits p items)
about_moved p items =
    let ks = strands_of_label p items in
    both _ _ _ _ (both _ _ _ _
    (ap (λ k. operation_place_misfits k (word_of_label (all_moved items)) (drop 1 (entries_under (codes "by") (all_moved items)))) (strands_moved p items)
    ∙ ap (λ w. operation_place_misfits ks w (drop 1 (entries_under (codes "by") (all_moved items)))) (word_moved items)
    ∙ ap (λ fs. operation_place_misfits ks (word_of_label items) (drop 1 fs)) (entries_under_moved (codes "by") items)
    ∙ ap (operation_place_misfits ks (word_of_label items)) (rest_moved (entries_under (codes "by") items))
    ∙ operation_place_moved ks (word_of_label items) (drop 1 (entries_under (codes "by") items)))
    (ap (λ k. optional_misfits (unrealised_misfits k) (item_with (codes "unrealised" ∷ []) (all_moved items))) (strands_moved p items)
    ∙ item_misfits_moved (codes "unrealised" ∷ []) (unrealised_misfits ks) (unrealised_moved ks) items))
    (ap (λ k. optional_misfits (test_misfits (scope_of (all_moved items)) k) (item_with (codes "test" ∷ []) (all_moved items))) (strands_moved p items)
    ∙ ap (λ s. optional_misfits (test_misfits s ks) (item_with (codes "test" ∷ []) (all_moved items))) (scope_moved items)
    ∙ item_misfits_moved (codes "test" ∷ []) (test_misfits (scope_of items) ks) (test_misfits_moved (scope_of items) ks) items)

-- What is asked of an item, with something of the other items.
with_items : (heads : List (List ℕ)) (inside inside' : Place → List Form → List Place) → ((at : Place) (fs : List Form) → inside' start (all_moved fs) ≡ at_start (inside at fs)) → (items : List Form) →
    optional_misfits inside' (item_with heads (all_moved items)) ≡ at_start (optional_misfits inside (item_with heads items))
with_items heads inside inside' m items = ap (optional_misfits inside') (item_moved heads items) ∙ by (item_with heads items)
  where
    by : (o : Option Form) → optional_misfits inside' (option_map unplaced o) ≡ at_start (optional_misfits inside o)
    by None = refl
    by (Some f) = ap (λ p. inside' p (forms_after_head (unplaced f))) (place_moved f) ∙ ap (inside' start) (entries_moved f) ∙ m (place_of f) (forms_after_head f)

items_misfits_moved : (p : Problem) (tree : Option (List Form)) (i : ℕ) (at : Place) (items : List Form) →
    items_misfits p (tree_moved tree) i start (all_moved items) ≡ at_start (items_misfits p tree i at items)
items_misfits_moved p tree i at items =
    both _ _ _ _ (both _ _ _ _ (both _ _ _ _ (both _ _ _ _ (both _ _ _ _ (both _ _ _ _ (both _ _ _ _ (both _ _ _ _ (both _ _ _ _
    (unless_moved _ _ _ _ (order_moved lines_of_label items) (missing_moved at items))
    (with_items (codes "parent" ∷ []) (no_parent_misfits items) (no_parent_misfits (all_moved items)) (no_parent_moved items) items))
    (with_items (codes "parent" ∷ []) (parent_misfits tree i) (parent_misfits (tree_moved tree) i) (parent_misfits_moved tree i) items))
    (item_misfits_moved (codes "by" ∷ []) (operation_misfits p) (operation_misfits_moved p) items))
    (vars_item_moved items))
    (strands_misfits_moved p items))
    (where_moved _ _ _ _ (both _ _ _ _ (front_order_moved items) (strands_misfits_moved p items))
    (both _ _ _ _
    (ap (λ ps. around_strands_misfits p (first_or start ps) (all_moved items)) (order_moved lines_of_label items)
    ∙ ap (λ q. around_strands_misfits p q (all_moved items)) (first_at_start (order_misfits lines_of_label items)) ∙ around_moved p (first_or at (order_misfits lines_of_label items)) items)
    (about_moved p items))))
    (with_items (codes "escape" ∷ []) (escape_misfits items) (escape_misfits (all_moved items)) (escape_moved items) items))
    (with_items (codes "children" ∷ []) (λ q fs. lacking 1 q fs ++ children_misfits tree i [] fs) (λ q fs. lacking 1 q fs ++ children_misfits (tree_moved tree) i [] fs)
    (λ q fs. both _ _ _ _ (lacking_moved 1 q fs) (children_misfits_moved tree i [] fs)) items))
    (ap (mark_misfits (tree_moved tree) (all_moved items)) (item_moved mark_heads items) ∙ mark_misfits_moved tree items (item_with mark_heads items))

numbered_moved : (p : Problem) (tree : Option (List Form)) (i : ℕ) (at : Place) (fs : List Form) → numbered_misfits p (tree_moved tree) i start (all_moved fs) ≡ at_start (numbered_misfits p tree i at fs)
numbered_moved p tree i at [] = refl
numbered_moved p tree i at (f ∷ fs) =
    both _ _ _ _ (number_moved (λ n. n == i) f)
    (ap (items_misfits p (tree_moved tree) i start) (behind_number_moved (f ∷ fs)) ∙ items_misfits_moved p tree i at (behind_number (f ∷ fs)))

pub label_misfits_moved : (p : Problem) (tree : Option (List Form)) (i : ℕ) (f : Form) → label_misfits p (tree_moved tree) i (unplaced f) ≡ at_start (label_misfits p tree i f)
label_misfits_moved p tree i f =
    ap (λ q. numbered_misfits p (tree_moved tree) i q (forms_after_head (unplaced f))) (place_moved f)
    ∙ ap (numbered_misfits p (tree_moved tree) i start) (entries_moved f) ∙ numbered_moved p tree i (place_of f) (forms_after_head f)

-- ---- the label

label_by_moved : (p : Problem) (items : List Form) → label_by p (all_moved items) ≡ label_by p items
label_by_moved p items =
    let a = ap number_in_front (entries_under_moved (codes "parent") items) ∙ in_front_moved (entries_under (codes "parent") items) in
    let w = word_moved items in
    let b = ap (λ fs. drop 1 fs) (entries_under_moved (codes "by") items) ∙ rest_moved (entries_under (codes "by") items) in
    let o = ap (λ v. operation_by v (drop 1 (entries_under (codes "by") (all_moved items)))) w ∙ ap (operation_by (word_of_label items)) b ∙ operation_by_moved (word_of_label items) (drop 1 (entries_under (codes "by") items)) in
    let ds = declarations_moved items in
    let k = skeleton_moved p items in
    let u = ap (map (λ f. node_or_first (option_node (Some f)))) (entries_under_moved (codes "unrealised") items)
    ∙ map_moved (λ f. node_or_first (option_node (Some f))) (λ f. ap node_or_first (node_moved f)) (entries_under (codes "unrealised") items) in
    let t = ap (λ s. test_of s (item_with (codes "test" ∷ []) (all_moved items))) (scope_moved items) ∙ ap (test_of (scope_of items)) (item_moved (codes "test" ∷ []) items) ∙ test_same (scope_of items) (item_with (codes "test" ∷ []) items) in
    let e = ap (λ d. map (pattern_of d) (entries_under (codes "escape") (all_moved items))) ds ∙ ap (map (pattern_of (declarations_of_label items))) (entries_under_moved (codes "escape") items)
    ∙ map_moved (pattern_of (declarations_of_label items)) (pattern_moved (declarations_of_label items)) (entries_under (codes "escape") items) in
    let c = ap (map number_of) (entries_under_moved (codes "children") items) ∙ map_moved number_of number_of_moved (entries_under (codes "children") items) in
    let m = mark_in_moved items in
    λ i. record { parent = a i; operation = o i; skeleton = k i; unrealised = u i; test = t i; escape = e i; children = c i; mark = m i }

pub label_moved : (p : Problem) (f : Form) → label_of p (unplaced f) ≡ label_of p f
label_moved p f = ap (label_by p) (label_items_moved f) ∙ label_by_moved p (items_of_label f)
