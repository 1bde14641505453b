-- Where a label form stands does not matter for the numbers that it states: of its parent, its children, its operation.
use Rattle.std.proofs.Common.{◌≡◌, ℕ, zero, suc, List, [], ◌∷◌, refl, ◌∙◌, ap}
use Rattle.std.specs.Prelude.{Option, Some, None, map, not, length, drop, codes, option_map, ◌&&◌, nat_lt, nat_le}
use Rattle.cp_base.specs.declared.place.Place.{Place}
use Rattle.cp_lists.specs.Lists.{item_at}
use Rattle.cp_model.specs.Bundle.{node_at}
use Rattle.cp_model.specs.Skeleton.{SkeletonStrand, term_event_at}
use Rattle.cp_model.specs.declared.tree.Operation.TheVariants.{Collapsed as by_collapse, Contracted as by_contraction, Displaced as by_displacement, AddedStrand as by_added_strand, AddedListener as by_added_listener}
use Rattle.cp_sexpr.specs.Syntax.{Form, symbol, string, number, list}
use Rattle.cp_sexpr.specs.Pieces.{start}
use Rattle.cp_sexpr.specs.ReadBack.{unplaced}
use Rattle.cp_language.specs.Roles.{text_of_symbol}
use Rattle.cp_language.specs.Problems.{is_known, number_of, name_in_front, Problem}
use Rattle.cp_report.specs.Misfits.{entries_misfits, number_misfits}
use Rattle.cp_report.specs.Heads.{forms_after_head, entries_under}
use Rattle.cp_report.specs.Skeletons.{strand_number_misfits}
use Rattle.cp_report.specs.declared.operations.OperationWord.{OperationWord}
use Rattle.cp_report.specs.declared.operations.OperationWord.TheVariants.{Problem as problem_word, Collapsed as collapsed_word, Contracted as contracted_word, Displaced as displaced_word, AddedStrand as added_strand_word, AddedListener as added_listener_word, Generalised as generalised_word, Unknown as no_operation_word}
use Rattle.cp_report.specs.Labels.{is_among, is_number, stated_number, number_in_front, numbers_onto, numbers_in, behind_number, items_of_label, stated_parent, stated_children, has_parent, has_child, has_parent_in, has_child_in, is_label_in, parent_misfits, children_misfits, operation_word, is_operation, block_checks, kinds_after, operation_kinds, operation_misfits, index_misfits, operation_place_misfits, number_stated, node_stated, operation_by, word_of_label}
use Rattle.cp_report.proofs.Moved.{at_start, all_moved, IsMoved, IsMovedInside, both, unless_moved, entries_moved, AreMoved, entries_misfits_moved, symbol_moved, number_moved, any_number_moved}
use Rattle.cp_report.proofs.MovedItems.{map_moved, text_moved, number_of_moved, name_in_front_moved, entries_under_moved}

-- ---- numbers

stated_number_moved : (f : Form) → stated_number (unplaced f) ≡ stated_number f
stated_number_moved (symbol at t) = refl
stated_number_moved (string at t) = refl
stated_number_moved (number at n) = refl
stated_number_moved (list at fs) = refl

pub in_front_moved : (fs : List Form) → number_in_front (all_moved fs) ≡ number_in_front fs
in_front_moved [] = refl
in_front_moved (f ∷ fs) = stated_number_moved f

numbers_in_moved : (fs : List Form) → numbers_in (all_moved fs) ≡ numbers_in fs
numbers_in_moved [] = refl
numbers_in_moved (f ∷ fs) = ap (λ o. numbers_onto o (numbers_in (all_moved fs))) (stated_number_moved f) ∙ ap (numbers_onto (stated_number f)) (numbers_in_moved fs)

pub rest_moved : (fs : List Form) → drop 1 (all_moved fs) ≡ all_moved (drop 1 fs)
rest_moved [] = refl
rest_moved (f ∷ fs) = refl

pub behind_number_moved : (fs : List Form) → behind_number (all_moved fs) ≡ all_moved (behind_number fs)
behind_number_moved [] = refl
behind_number_moved (symbol at t ∷ fs) = refl
behind_number_moved (string at t ∷ fs) = refl
behind_number_moved (number at n ∷ fs) = refl
behind_number_moved (list at items ∷ fs) = refl

pub label_items_moved : (f : Form) → items_of_label (unplaced f) ≡ all_moved (items_of_label f)
label_items_moved f = ap behind_number (entries_moved f) ∙ behind_number_moved (forms_after_head f)

parent_of_moved : (f : Form) → stated_parent (unplaced f) ≡ stated_parent f
parent_of_moved f =
    ap (λ gs. number_in_front (entries_under (codes "parent") gs)) (label_items_moved f)
    ∙ ap number_in_front (entries_under_moved (codes "parent") (items_of_label f)) ∙ in_front_moved (entries_under (codes "parent") (items_of_label f))

children_of_moved : (f : Form) → stated_children (unplaced f) ≡ stated_children f
children_of_moved f =
    ap (λ gs. numbers_in (entries_under (codes "children") gs)) (label_items_moved f)
    ∙ ap numbers_in (entries_under_moved (codes "children") (items_of_label f)) ∙ numbers_in_moved (entries_under (codes "children") (items_of_label f))

-- ---- the other label forms

-- The label forms of a tree, all at one place.
abbrev pub tree_moved : Option (List Form) → Option (List Form)
tree_moved tree = option_map all_moved tree

item_at_moved : (fs : List Form) (n : ℕ) → item_at (all_moved fs) n ≡ option_map unplaced (item_at fs n)
item_at_moved [] n = refl
item_at_moved (f ∷ fs) zero = refl
item_at_moved (f ∷ fs) (suc n) = item_at_moved fs n

pub length_moved : (fs : List Form) → length (all_moved fs) ≡ length fs
length_moved [] = refl
length_moved (f ∷ fs) = ap suc (length_moved fs)

parent_there_moved : (i : ℕ) (o : Option Form) → has_parent i (option_map unplaced o) ≡ has_parent i o
parent_there_moved i None = refl
parent_there_moved i (Some f) = ap (is_number i) (parent_of_moved f)

child_there_moved : (i : ℕ) (o : Option Form) → has_child i (option_map unplaced o) ≡ has_child i o
child_there_moved i None = refl
child_there_moved i (Some f) = ap (is_among i) (children_of_moved f)

has_parent_moved : (tree : Option (List Form)) (i n : ℕ) → has_parent_in (tree_moved tree) i n ≡ has_parent_in tree i n
has_parent_moved None i n = refl
has_parent_moved (Some fs) i n = ap (has_parent i) (item_at_moved fs n) ∙ parent_there_moved i (item_at fs n)

has_child_moved : (tree : Option (List Form)) (i n : ℕ) → has_child_in (tree_moved tree) i n ≡ has_child_in tree i n
has_child_moved None i n = refl
has_child_moved (Some fs) i n = ap (has_child i) (item_at_moved fs n) ∙ child_there_moved i (item_at fs n)

is_label_moved : (tree : Option (List Form)) (n : ℕ) → is_label_in (tree_moved tree) n ≡ is_label_in tree n
is_label_moved None n = refl
is_label_moved (Some fs) n = ap (nat_lt n) (length_moved fs)

-- numbers of labels are there as well
pub label_number_moved : (tree : Option (List Form)) → is_label_in (tree_moved tree) ≡ is_label_in tree
label_number_moved tree = λ j n. is_label_moved tree n j

pub parent_misfits_moved : (tree : Option (List Form)) (i : ℕ) (at : Place) (fs : List Form) → parent_misfits (tree_moved tree) i start (all_moved fs) ≡ at_start (parent_misfits tree i at fs)
parent_misfits_moved tree i at fs =
    let test : has_child_in (tree_moved tree) i ≡ has_child_in tree i = λ j n. has_child_moved tree i n j in
    ap (λ g. entries_misfits (number_misfits g ∷ []) start (all_moved fs)) test
    ∙ entries_misfits_moved (number_misfits (has_child_in tree i) ∷ []) at fs (number_moved (has_child_in tree i), tt)

pub children_misfits_moved : (tree : Option (List Form)) (i : ℕ) (before : List ℕ) (fs : List Form) → children_misfits (tree_moved tree) i before (all_moved fs) ≡ at_start (children_misfits tree i before fs)
children_misfits_moved tree i before [] = refl
children_misfits_moved tree i before (f ∷ fs) =
    let test : has_parent_in (tree_moved tree) i ≡ has_parent_in tree i = λ j n. has_parent_moved tree i n j in
    both _ _ _ _
    (ap (λ g. number_misfits (λ n. g n && not (is_among n before)) (unplaced f)) test ∙ number_moved (λ n. has_parent_in tree i n && not (is_among n before)) f)
    (ap (λ m. children_misfits (tree_moved tree) i (m ∷ before) (all_moved fs)) (number_of_moved f) ∙ children_misfits_moved tree i (number_of f ∷ before) fs)

-- ---- operations

blocks_moved : (ns : List ℕ) (i : ℕ) (ks : List SkeletonStrand) → AreMoved (block_checks ns i ks)
blocks_moved ns i [] = tt
blocks_moved ns i (k ∷ ks) = (number_moved (λ n. nat_le n i && is_number n (item_at ns n)), blocks_moved ns (suc i) ks)

kinds_same : (p : Problem) (w : OperationWord) (fs : List Form) → operation_kinds p w (all_moved fs) ≡ operation_kinds p w fs
kinds_same p w fs = ap (λ ns. kinds_after w (block_checks ns 0 p.skeleton.strands)) (map_moved number_of number_of_moved fs)

kinds_moved : (p : Problem) (w : OperationWord) (fs : List Form) → AreMoved (operation_kinds p w fs)
kinds_moved p problem_word fs = tt
kinds_moved p collapsed_word fs = blocks_moved (map number_of fs) 0 p.skeleton.strands
kinds_moved p contracted_word fs = (any_number_moved, (any_number_moved, tt))
kinds_moved p displaced_word fs = (any_number_moved, (any_number_moved, tt))
kinds_moved p added_strand_word fs = (any_number_moved, tt)
kinds_moved p added_listener_word fs = (any_number_moved, tt)
kinds_moved p generalised_word fs = tt
kinds_moved p no_operation_word fs = tt

pub operation_misfits_moved : (p : Problem) → IsMovedInside (operation_misfits p)
operation_misfits_moved p at [] = refl
operation_misfits_moved p at (f ∷ fs) =
    unless_moved _ _ _ _ (symbol_moved (λ t. is_operation (operation_word t)) f)
    (ap (λ t. entries_misfits (operation_kinds p (operation_word t) (all_moved fs)) start (all_moved fs)) (text_moved f)
    ∙ ap (λ ks. entries_misfits ks start (all_moved fs)) (kinds_same p (operation_word (text_of_symbol f)) fs)
    ∙ entries_misfits_moved (operation_kinds p (operation_word (text_of_symbol f)) fs) at fs (kinds_moved p (operation_word (text_of_symbol f)) fs))

strand_number_moved : (strands : List SkeletonStrand) → IsMoved (strand_number_misfits strands)
strand_number_moved strands f = number_moved (λ n. nat_lt n (length strands)) f

index_moved : (strands : List SkeletonStrand) (f g : Form) → index_misfits strands (number_of (unplaced f)) (unplaced g) ≡ at_start (index_misfits strands (number_of f) g)
index_moved strands f g = ap (λ s. index_misfits strands s (unplaced g)) (number_of_moved f) ∙ number_moved (λ i. is_known (term_event_at strands (node_at (number_of f) i))) g

pub operation_place_moved : (strands : List SkeletonStrand) (w : OperationWord) (fs : List Form) → operation_place_misfits strands w (all_moved fs) ≡ at_start (operation_place_misfits strands w fs)
operation_place_moved strands contracted_word (f ∷ g ∷ fs) = both _ _ _ _ (strand_number_moved strands f) (index_moved strands f g)
operation_place_moved strands displaced_word (f ∷ g ∷ fs) = both _ _ _ _ (strand_number_moved strands f) (index_moved strands f g)
operation_place_moved strands added_strand_word (f ∷ fs) = strand_number_moved strands f
operation_place_moved strands added_listener_word (f ∷ fs) = strand_number_moved strands f
operation_place_moved strands contracted_word [] = refl
operation_place_moved strands contracted_word (f ∷ []) = refl
operation_place_moved strands displaced_word [] = refl
operation_place_moved strands displaced_word (f ∷ []) = refl
operation_place_moved strands added_strand_word [] = refl
operation_place_moved strands added_listener_word [] = refl
operation_place_moved strands problem_word fs = refl
operation_place_moved strands collapsed_word fs = refl
operation_place_moved strands generalised_word fs = refl
operation_place_moved strands no_operation_word fs = refl

pub number_stated_moved : (fs : List Form) → number_stated (all_moved fs) ≡ number_stated fs
number_stated_moved [] = refl
number_stated_moved (f ∷ fs) = number_of_moved f

node_stated_moved : (fs : List Form) → node_stated (all_moved fs) ≡ node_stated fs
node_stated_moved [] = refl
node_stated_moved (f ∷ []) = refl
node_stated_moved (f ∷ g ∷ fs) = let s = number_of_moved f in let n = number_of_moved g in λ i. node_at (s i) (n i)

pub operation_by_moved : (w : OperationWord) (fs : List Form) → operation_by w (all_moved fs) ≡ operation_by w fs
operation_by_moved problem_word fs = refl
operation_by_moved collapsed_word fs = ap by_collapse (map_moved number_of number_of_moved fs)
operation_by_moved contracted_word fs = ap by_contraction (node_stated_moved fs)
operation_by_moved displaced_word fs = ap by_displacement (node_stated_moved fs)
operation_by_moved added_strand_word fs = ap by_added_strand (number_stated_moved fs)
operation_by_moved added_listener_word fs = ap by_added_listener (number_stated_moved fs)
operation_by_moved generalised_word fs = refl
operation_by_moved no_operation_word fs = refl

pub word_moved : (items : List Form) → word_of_label (all_moved items) ≡ word_of_label items
word_moved items = ap (λ fs. operation_word (name_in_front fs)) (entries_under_moved (codes "by") items) ∙ ap operation_word (name_in_front_moved (entries_under (codes "by") items))
