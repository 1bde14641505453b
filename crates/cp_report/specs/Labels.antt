-- Label forms: where one does not fit, and the label that it denotes.
use Rattle.std.specs.Prelude.{◌==◌, ◌&&◌, ◌||◌, nat_lt, nat_le, ℕ, suc, List, [], ◌∷◌, ◌++◌, length, map, drop, Bool, true, false, not, codes, if◌then◌else◌, Option, Some, None}
use Rattle.cp_base.specs.declared.place.Place.{Place}
use Rattle.cp_lists.specs.Lists.{item_at}
use Rattle.cp_model.specs.Bundle.{node_at}
use Rattle.cp_model.specs.declared.node.Node.{Node}
use Rattle.cp_model.specs.Skeleton.{SkeletonStrand, term_event_at}
use Rattle.cp_model.specs.Tree.{Test, Label}
use Rattle.cp_model.specs.declared.tree.Operation.{Operation}
use Rattle.cp_model.specs.declared.tree.Operation.TheVariants.{Problem as by_problem, Collapsed as by_collapse, Contracted as by_contraction, Displaced as by_displacement, AddedStrand as by_added_strand, AddedListener as by_added_listener, Generalised as by_generalising}
use Rattle.cp_model.specs.declared.tree.Mark.{Mark}
use Rattle.cp_model.specs.declared.tree.Mark.TheVariants.{Shape as shape, Dead as dead, Seen as seen, InstanceOf as instance_of, LimitSteps as limit_steps, LimitStrands as limit_strands}
use Rattle.cp_model.specs.Same.{same_text}
use Rattle.cp_sexpr.specs.Syntax.{Form, number, list}
use Rattle.cp_language.specs.Words.{is_one_of}
use Rattle.cp_language.specs.Faults.{place_of}
use Rattle.cp_language.specs.Roles.{Headed, headed, text_of_symbol}
use Rattle.cp_language.specs.Problems.{is_known, first_form, second_form, number_of, name_in_front, option_node, Problem}
use Rattle.cp_report.specs.declared.operations.OperationWord.{OperationWord}
use Rattle.cp_report.specs.declared.operations.OperationWord.TheVariants.{Problem as problem_word, Collapsed as collapsed_word, Contracted as contracted_word, Displaced as displaced_word, AddedStrand as added_strand_word, AddedListener as added_listener_word, Generalised as generalised_word, Unknown as no_operation_word}
use Rattle.cp_report.specs.Misfits.{misfit, misfit_unless, unless_misfit, where_fitting, first_or, lacking, each_misfits, entries_misfits, number_misfits, symbol_misfits, any_number_misfits}
use Rattle.cp_report.specs.Heads.{forms_after_head, item_with, entries_under, optional_misfits, mark_heads, up_to_strands, lines_of_label, order_misfits}
use Rattle.cp_report.specs.Spelled.{Scope, term_misfits, pattern_misfits, pattern_of}
use Rattle.cp_report.specs.Skeletons.{declarations_of_label, scope_of, term_or_tag, node_misfits, node_or_first, strands_of_label, strand_number_misfits, vars_item_misfits, strands_misfits, around_strands_misfits, skeleton_stated}

-- ---- numbers of labels

abbrev pub is_among : ℕ → List ℕ → Bool
is_among n [] = false
is_among n (m ∷ ms) = (m == n) || is_among n ms

abbrev pub is_number : ℕ → Option ℕ → Bool
is_number n None = false
is_number n (Some m) = m == n

abbrev pub stated_number : Form → Option ℕ
stated_number (number at n) = Some n
stated_number _ = None

abbrev pub number_in_front : List Form → Option ℕ
number_in_front [] = None
number_in_front (f ∷ fs) = stated_number f

abbrev pub numbers_onto : Option ℕ → List ℕ → List ℕ
numbers_onto None ns = ns
numbers_onto (Some n) ns = n ∷ ns

-- The numbers among the entries.
abbrev pub numbers_in : List Form → List ℕ
numbers_in [] = []
numbers_in (f ∷ fs) = numbers_onto (stated_number f) (numbers_in fs)

-- The entries behind the number of a label form; a list in front is none, but an item.
abbrev pub behind_number : List Form → List Form
behind_number [] = []
behind_number (list at items ∷ fs) = list at items ∷ fs
behind_number (f ∷ fs) = fs

-- The items of a label form stand behind its number.
abbrev pub items_of_label : Form → List Form
items_of_label f = behind_number (forms_after_head f)

-- The parent that a label form states.
abbrev pub stated_parent : Form → Option ℕ
stated_parent f = number_in_front (entries_under (codes "parent") (items_of_label f))

abbrev pub stated_children : Form → List ℕ
stated_children f = numbers_in (entries_under (codes "children") (items_of_label f))

-- The label form is there and names label i as its parent.
abbrev pub has_parent : ℕ → Option Form → Bool
has_parent i None = false
has_parent i (Some f) = is_number i (stated_parent f)

-- The label form is there and names label i among its children.
abbrev pub has_child : ℕ → Option Form → Bool
has_child i None = false
has_child i (Some f) = is_among i (stated_children f)

-- The label forms of the tree, where it is whole: where its status form is missing nothing is asked of numbers of labels.
-- This one names label i as its parent; or it names it among its children; or it is there.
abbrev pub has_parent_in : Option (List Form) → ℕ → ℕ → Bool
has_parent_in None i n = true
has_parent_in (Some labels) i n = has_parent i (item_at labels n)

abbrev pub has_child_in : Option (List Form) → ℕ → ℕ → Bool
has_child_in None i n = true
has_child_in (Some labels) i n = has_child i (item_at labels n)

abbrev pub is_label_in : Option (List Form) → ℕ → Bool
is_label_in None n = true
is_label_in (Some labels) n = nat_lt n (length labels)

-- A label form of the tree, whose children name this one.
abbrev pub parent_misfits : Option (List Form) → ℕ → Place → List Form → List Place
parent_misfits tree i at fs = entries_misfits (number_misfits (has_child_in tree i) ∷ []) at fs

-- Label forms of the tree that name this one as their parent, none twice.
abbrev pub children_misfits : Option (List Form) → ℕ → List ℕ → List Form → List Place
children_misfits tree i before [] = []
children_misfits tree i before (f ∷ fs) =
    number_misfits (λ n. has_parent_in tree i n && not (is_among n before)) f ++ children_misfits tree i (number_of f ∷ before) fs

-- ---- operations

abbrev pub operation_word : List ℕ → OperationWord
operation_word t =
    if same_text t (codes "problem") then problem_word else
    if same_text t (codes "collapsed") then collapsed_word else
    if same_text t (codes "contracted") then contracted_word else
    if same_text t (codes "displaced") then displaced_word else
    if same_text t (codes "added-strand") then added_strand_word else
    if same_text t (codes "added-listener") then added_listener_word else
    if same_text t (codes "generalised") then generalised_word else no_operation_word

abbrev pub is_operation : OperationWord → Bool
is_operation no_operation_word = false
is_operation _ = true

-- Roots are made by these.
abbrev pub makes_root : OperationWord → Bool
makes_root problem_word = true
makes_root collapsed_word = true
makes_root _ = false

-- An entry of a partition, number i: at most i, and a strand that names itself.
abbrev pub block_misfits : List ℕ → ℕ → Form → List Place
block_misfits ns i f = number_misfits (λ n. nat_le n i && is_number n (item_at ns n)) f

-- The entries of a partition, one for each strand of the problem, the first of them number i.
abbrev pub block_checks : List ℕ → ℕ → List SkeletonStrand → List (Form → List Place)
block_checks ns i [] = []
block_checks ns i (k ∷ ks) = block_misfits ns i ∷ block_checks ns (suc i) ks

-- The kinds of the entries behind the word, where those of a partition are these.
abbrev pub kinds_after : OperationWord → List (Form → List Place) → List (Form → List Place)
kinds_after problem_word blocks = []
kinds_after collapsed_word blocks = blocks
kinds_after contracted_word blocks = any_number_misfits ∷ any_number_misfits ∷ []
kinds_after displaced_word blocks = any_number_misfits ∷ any_number_misfits ∷ []
kinds_after added_strand_word blocks = any_number_misfits ∷ []
kinds_after added_listener_word blocks = any_number_misfits ∷ []
kinds_after generalised_word blocks = []
kinds_after no_operation_word blocks = []

abbrev pub operation_kinds : Problem → OperationWord → List Form → List (Form → List Place)
operation_kinds p w fs = kinds_after w (block_checks (map number_of fs) 0 p.skeleton.strands)

-- A word that names an operation, and what belongs to it.
abbrev pub operation_misfits : Problem → Place → List Form → List Place
operation_misfits p at [] = misfit at
operation_misfits p at (f ∷ fs) =
    unless_misfit (symbol_misfits (λ t. is_operation (operation_word t)) f) (entries_misfits (operation_kinds p (operation_word (text_of_symbol f)) fs) at fs)

-- The index of an event on this strand.
abbrev pub index_misfits : List SkeletonStrand → ℕ → Form → List Place
index_misfits strands s f = number_misfits (λ i. is_known (term_event_at strands (node_at s i))) f

-- The strand and the event that an operation names are there.
abbrev pub operation_place_misfits : List SkeletonStrand → OperationWord → List Form → List Place
operation_place_misfits strands contracted_word (f ∷ g ∷ fs) = strand_number_misfits strands f ++ index_misfits strands (number_of f) g
operation_place_misfits strands displaced_word (f ∷ g ∷ fs) = strand_number_misfits strands f ++ index_misfits strands (number_of f) g
operation_place_misfits strands added_strand_word (f ∷ fs) = strand_number_misfits strands f
operation_place_misfits strands added_listener_word (f ∷ fs) = strand_number_misfits strands f
operation_place_misfits strands _ _ = []

abbrev pub number_stated : List Form → ℕ
number_stated [] = 0
number_stated (f ∷ fs) = number_of f

abbrev pub node_stated : List Form → Node
node_stated (f ∷ g ∷ fs) = node_at (number_of f) (number_of g)
node_stated _ = node_at 0 0

-- The operation that a word and what stands behind it name.
abbrev pub operation_by : OperationWord → List Form → Operation
operation_by problem_word fs = by_problem
operation_by collapsed_word fs = by_collapse (map number_of fs)
operation_by contracted_word fs = by_contraction (node_stated fs)
operation_by displaced_word fs = by_displacement (node_stated fs)
operation_by added_strand_word fs = by_added_strand (number_stated fs)
operation_by added_listener_word fs = by_added_listener (number_stated fs)
operation_by generalised_word fs = by_generalising
operation_by no_operation_word fs = by_problem

-- The word behind `by` in a label form.
abbrev pub word_of_label : List Form → OperationWord
word_of_label items = operation_word (name_in_front (entries_under (codes "by") items))

-- ---- test, patterns and mark

-- At least one node that is there.
abbrev pub unrealised_misfits : List SkeletonStrand → Place → List Form → List Place
unrealised_misfits strands at fs = lacking 1 at fs ++ each_misfits (node_misfits strands) fs

abbrev pub test_misfits : Scope → List SkeletonStrand → Place → List Form → List Place
test_misfits s strands at fs = entries_misfits (node_misfits strands ∷ term_misfits s ∷ []) at fs

-- At least one pattern, where the label has a test.
abbrev pub escape_misfits : List Form → Place → List Form → List Place
escape_misfits items at fs =
    misfit_unless (is_known (item_with (codes "test" ∷ []) items)) at ++ lacking 1 at fs ++ each_misfits (pattern_misfits (declarations_of_label items)) fs

-- The test that an item states, if it is there.
abbrev pub test_of : Scope → Option Form → Option Test
test_of s None = None
test_of s (Some f) = Some (record { node = node_or_first (option_node (first_form (forms_after_head f))); critical = term_or_tag s (second_form (forms_after_head f)) })

-- The kinds of the entries behind the head of a mark.
abbrev pub mark_kinds : Option (List Form) → List ℕ → List (Form → List Place)
mark_kinds tree head =
    if is_one_of head (codes "seen" ∷ codes "instance-of" ∷ []) then number_misfits (is_label_in tree) ∷ [] else
    if same_text head (codes "limit") then symbol_misfits (λ t. is_one_of t (codes "steps" ∷ codes "strands" ∷ [])) ∷ [] else []

-- The mark that a head and what stands behind it name.
abbrev pub mark_named : List ℕ → List Form → Mark
mark_named head fs =
    if same_text head (codes "shape") then shape else
    if same_text head (codes "dead") then dead else
    if same_text head (codes "seen") then seen (number_stated fs) else
    if same_text head (codes "instance-of") then instance_of (number_stated fs) else
    if same_text (name_in_front fs) (codes "steps") then limit_steps else limit_strands

abbrev pub mark_of : Option Headed → Option Mark
mark_of None = None
mark_of (Some h) = Some (mark_named h.head h.items)

abbrev pub mark_in : List Form → Option Mark
mark_in items = mark_from (item_with mark_heads items)
  where
    mark_from : Option Form → Option Mark
    mark_from None = None
    mark_from (Some f) = mark_of (headed f)

abbrev pub has_children : List Form → Bool
has_children items = is_known (item_with (codes "children" ∷ []) items)

abbrev pub has_mark : List Form → Bool
has_mark items = is_known (item_with mark_heads items)

abbrev pub headed_mark_misfits : Option (List Form) → Place → Option Headed → List Place
headed_mark_misfits tree at None = []
headed_mark_misfits tree at (Some h) = entries_misfits (mark_kinds tree h.head) at h.items

-- A mark, where there are no children.
abbrev pub mark_misfits : Option (List Form) → List Form → Option Form → List Place
mark_misfits tree items None = []
mark_misfits tree items (Some f) = misfit_unless (not (has_children items)) (place_of f) ++ headed_mark_misfits tree (place_of f) (headed f)

-- ---- label forms

-- A root has no parent.
abbrev pub no_parent_misfits : List Form → Place → List Form → List Place
no_parent_misfits items at fs = misfit_unless (not (makes_root (word_of_label items))) at

-- A label that is no root, as far as its operation tells.
abbrev pub wants_parent : List Form → Bool
wants_parent items = is_operation (word_of_label items) && not (makes_root (word_of_label items))

-- What a label form lacks: its operation, its map, a mark or children, the parent of one that is no root.
abbrev pub missing_misfits : Place → List Form → List Place
missing_misfits at items =
    misfit_unless (is_known (item_with (codes "by" ∷ []) items)) at ++ misfit_unless (is_known (item_with (codes "map" ∷ []) items)) at
    ++ misfit_unless (has_children items || has_mark items) at
    ++ misfit_unless (not (wants_parent items) || is_known (item_with (codes "parent" ∷ []) items)) at

-- Where the other items that speak of the strands do not fit.
abbrev pub about_strands_misfits : Problem → List Form → List Place
about_strands_misfits p items =
    let strands = strands_of_label p items in
    operation_place_misfits strands (word_of_label items) (drop 1 (entries_under (codes "by") items))
    ++ optional_misfits (unrealised_misfits strands) (item_with (codes "unrealised" ∷ []) items)
    ++ optional_misfits (test_misfits (scope_of items) strands) (item_with (codes "test" ∷ []) items)

-- The items of label number i of a tree, whose label forms are these if it is whole, in the label form that stands here:
-- each stands in the order, none that is wanted is missing, and each fits. What speaks of the strands is asked only where
-- the items up to them stand in the order and the strands fit; and of assumptions that the roles give and no item lists the
-- place is that of the label form, or where an item is out of the order, which may be that one misspelled, the place of this.
abbrev pub items_misfits : Problem → Option (List Form) → ℕ → Place → List Form → List Place
items_misfits p tree i at items =
    unless_misfit (order_misfits lines_of_label items) (missing_misfits at items)
    ++ optional_misfits (no_parent_misfits items) (item_with (codes "parent" ∷ []) items)
    ++ optional_misfits (parent_misfits tree i) (item_with (codes "parent" ∷ []) items)
    ++ optional_misfits (operation_misfits p) (item_with (codes "by" ∷ []) items)
    ++ vars_item_misfits items
    ++ strands_misfits p items
    ++ where_fitting (order_misfits lines_of_label (up_to_strands items) ++ strands_misfits p items)
    (around_strands_misfits p (first_or at (order_misfits lines_of_label items)) items ++ about_strands_misfits p items)
    ++ optional_misfits (escape_misfits items) (item_with (codes "escape" ∷ []) items)
    ++ optional_misfits (λ q fs. lacking 1 q fs ++ children_misfits tree i [] fs) (item_with (codes "children" ∷ []) items)
    ++ mark_misfits tree items (item_with mark_heads items)

-- A label form behind its head: its number, and its items. Where a list stands in the number's place it is a misfit, and
-- an item like the others.
abbrev pub numbered_misfits : Problem → Option (List Form) → ℕ → Place → List Form → List Place
numbered_misfits p tree i at [] = misfit at
numbered_misfits p tree i at (f ∷ fs) = number_misfits (λ n. n == i) f ++ items_misfits p tree i at (behind_number (f ∷ fs))

abbrev pub label_misfits : Problem → Option (List Form) → ℕ → Form → List Place
label_misfits p tree i f = numbered_misfits p tree i (place_of f) (forms_after_head f)

-- The label that items denote, where they fit.
abbrev pub label_by : Problem → List Form → Label
label_by p items = record {
  parent = number_in_front (entries_under (codes "parent") items);
  operation = operation_by (word_of_label items) (drop 1 (entries_under (codes "by") items));
  skeleton = skeleton_stated p items;
  unrealised = map (λ f. node_or_first (option_node (Some f))) (entries_under (codes "unrealised") items);
  test = test_of (scope_of items) (item_with (codes "test" ∷ []) items);
  escape = map (pattern_of (declarations_of_label items)) (entries_under (codes "escape") items);
  children = map number_of (entries_under (codes "children") items);
  mark = mark_in items;
}

abbrev pub label_of : Problem → Form → Label
label_of p f = label_by p (items_of_label f)
