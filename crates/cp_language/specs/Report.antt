-- The report: the forms of the input in order, each problem followed by the labels of its tree and its status.
use Rattle.std.specs.Prelude.{◌≡◌, ℕ, suc, ◌+◌, ◌==◌, ◌&&◌, ◌||◌, List, [], ◌∷◌, ◌++◌, length, map, Bool, false, not, codes, if◌then◌else◌, Option, Some, None}
use Rattle.cp_lists.specs.Lists.{item_at, IsIn}
use Rattle.cp_model.specs.Term.{apply_to, variable_term, Term, variables_of}
use Rattle.cp_model.specs.Bindings.{Binding, as_substitution}
use Rattle.cp_model.specs.declared.variable.Variable.{Variable}
use Rattle.cp_model.specs.Strand.{variables_of_prefix}
use Rattle.cp_model.specs.declared.strand.Event.{Event}
use Rattle.cp_model.specs.declared.variable.Declaration.{Declaration}
use Rattle.cp_model.specs.Bundle.{node_at}
use Rattle.cp_model.specs.declared.node.Node.{Node}
use Rattle.cp_model.specs.Skeleton.{SkeletonStrand, instance, listener, skeleton_trace, UniqueAt, Skeleton}
use Rattle.cp_model.specs.declared.node.OrderPair.{OrderPair}
use Rattle.cp_model.specs.Problem.{IsDeclared, variables_of_skeleton}
pub use Rattle.cp_model.specs.Problem.{variables_of_terms}
use Rattle.cp_model.specs.Given.{listed}
use Rattle.cp_model.specs.Tree.{Pattern, Test, Label, Tree, expanded_count}
use Rattle.cp_model.specs.declared.tree.Operation.{Operation}
use Rattle.cp_model.specs.declared.tree.Operation.TheVariants.{Problem as by_problem, Collapsed as by_collapse, Contracted as by_contraction, Displaced as by_displacement, AddedStrand as by_added_strand, AddedListener as by_added_listener, Generalised as by_generalising}
use Rattle.cp_model.specs.declared.tree.Mark.{Mark}
use Rattle.cp_model.specs.declared.tree.Mark.TheVariants.{Shape as shape, Dead as dead, Seen as seen, InstanceOf as instance_of, LimitSteps as limit_steps, LimitStrands as limit_strands}
use Rattle.cp_model.specs.declared.tree.Outcome.{Outcome}
use Rattle.cp_model.specs.declared.tree.Outcome.TheVariants.{Complete as complete, LimitSteps as at_step_limit, LimitStrands as at_strand_limit}
use Rattle.cp_sexpr.specs.Syntax.{Form}
use Rattle.cp_sexpr.specs.Spelling.{top_spelling}
use Rattle.cp_model.specs.Same.{same_node, has_variable}
use Rattle.cp_language.specs.Problems.{Problem, reaches_within}
use Rattle.cp_language.specs.Input.{Entry, form_of, stated}
use Rattle.cp_language.specs.Names.{problem_names, label_names, has_number, sort_text}
use Rattle.cp_language.specs.Printed.{word, numeral, headed_list, plain_list, variable, term_form, atom_form, pattern_form}

-- ---- the variables of a label form

abbrev pub variables_of_test : Option Test → List Variable
variables_of_test None = []
variables_of_test (Some t) = variables_of t.critical

abbrev pub variables_but : List Variable → List Variable → List Variable
variables_but locals [] = []
variables_but locals (x ∷ xs) = if has_variable locals x then variables_but locals xs else x ∷ variables_but locals xs

abbrev pub variables_of_patterns : List Pattern → List Variable
variables_of_patterns [] = []
variables_of_patterns (p ∷ ps) = variables_but p.locals (variables_of p.term) ++ variables_of_patterns ps

-- The variables that occur in a label form: in its strands and assumptions, the terms of its map, its test, and
-- its patterns but for their locals.
abbrev pub occurring : Label → List Variable
occurring l = variables_of_skeleton l.skeleton ++ variables_of_terms l.skeleton.from_problem.values ++ variables_of_test l.test ++ variables_of_patterns l.escape

-- The variables of a label: first those of its problem, and then those that were made on the way to it; each that
-- occurs in the label form is one of them, so that it has a name and a sort.
pub record HasItsVariables (p : Problem) (l : Label) : Type 0 where
  pub later : List Declaration
  pub variables : l.skeleton.variables ≡ p.variables ++ later
  pub declared : (x : Variable) → IsIn x (occurring l) → IsDeclared l.skeleton.variables x

-- ---- items

-- An item that would list nothing is left out.
abbrev pub item_unless_empty : List ℕ → List Form → List Form
item_unless_empty head [] = []
item_unless_empty head (f ∷ fs) = headed_list head (f ∷ fs) ∷ []

abbrev pub name_or_none : Option (List ℕ) → List ℕ
name_or_none None = []
name_or_none (Some t) = t

-- A variable by its name.
abbrev pub named_by : List (List ℕ) → Variable → Form
named_by names x = word (name_or_none (item_at names x.number))

abbrev pub node_form : Node → Form
node_form n = plain_list (numeral n.strand ∷ numeral n.index ∷ [])

abbrev pub parent_items : Option ℕ → List Form
parent_items None = []
parent_items (Some n) = headed_list (codes "parent") (numeral n ∷ []) ∷ []

abbrev pub operation_words : Operation → List Form
operation_words by_problem = word (codes "problem") ∷ []
operation_words (by_collapse ps) = word (codes "collapsed") ∷ map numeral ps
operation_words (by_contraction n) = word (codes "contracted") ∷ numeral n.strand ∷ numeral n.index ∷ []
operation_words (by_displacement n) = word (codes "displaced") ∷ numeral n.strand ∷ numeral n.index ∷ []
operation_words (by_added_strand s) = word (codes "added-strand") ∷ numeral s ∷ []
operation_words (by_added_listener s) = word (codes "added-listener") ∷ numeral s ∷ []
operation_words by_generalising = word (codes "generalised") ∷ []

-- The variables that occur, each with its sort, the first of the list having number n.
abbrev pub vars_from : List (List ℕ) → List Variable → ℕ → List Declaration → List Form
vars_from names occurs n [] = []
vars_from names occurs n (d ∷ ds) =
    if has_number occurs n then plain_list (word (name_or_none (item_at names n)) ∷ word (sort_text d.sort) ∷ []) ∷ vars_from names occurs (suc n) ds
    else vars_from names occurs (suc n) ds

-- The maplets of an instance: the variables of the prefix in the role's order, the first of the list having number n.
abbrev pub maplets_from : (Variable → Form) → List Variable → List Binding → ℕ → List Declaration → List Form
maplets_from named prefix terms n [] = []
maplets_from named prefix terms n (d ∷ ds) =
    let x = variable d.sort n in
    if has_variable prefix x then plain_list (word d.identifier ∷ term_form named (apply_to (as_substitution terms) (variable_term x)) ∷ []) ∷ maplets_from named prefix terms (suc n) ds
    else maplets_from named prefix terms (suc n) ds

abbrev pub strand_form : (Variable → Form) → SkeletonStrand → Form
strand_form named (instance role height terms) =
    headed_list (codes "defstrand") (word role.name ∷ numeral height ∷ maplets_from named (variables_of_prefix role height) terms 0 role.variables)
strand_form named (listener t) = headed_list (codes "deflistener") (term_form named t ∷ [])

-- ---- order

abbrev pub nodes_on : ℕ → ℕ → List (Event Term) → List Node
nodes_on s i [] = []
nodes_on s i (e ∷ es) = node_at s i ∷ nodes_on s (suc i) es

-- The nodes of a skeleton by strand and index, the first of the strands having number s.
abbrev pub nodes_from : ℕ → List SkeletonStrand → List Node
nodes_from s [] = []
nodes_from s (k ∷ ks) = nodes_on s 0 (skeleton_trace k) ++ nodes_from (suc s) ks

abbrev pub is_before : List OrderPair → Node → Node → Bool
is_before pairs x y = not (same_node x y) && reaches_within (length pairs) pairs x y

abbrev pub any_node : (Node → Bool) → List Node → Bool
any_node test [] = false
any_node test (n ∷ ns) = test n || any_node test ns

-- x is before y on another strand, and no node is between them.
abbrev pub is_covering : List OrderPair → List Node → Node → Node → Bool
is_covering pairs nodes x y = not (x.strand == y.strand) && is_before pairs x y && not (any_node (λ z. is_before pairs x z && is_before pairs z y) nodes)

abbrev pub covering_with : List OrderPair → List Node → Node → List Node → List Form
covering_with pairs nodes x [] = []
covering_with pairs nodes x (y ∷ ys) = if is_covering pairs nodes x y then plain_list (node_form x ∷ node_form y ∷ []) ∷ covering_with pairs nodes x ys else covering_with pairs nodes x ys

abbrev pub covering_from : List OrderPair → List Node → List Node → List Form
covering_from pairs nodes [] = []
covering_from pairs nodes (x ∷ xs) = covering_with pairs nodes x nodes ++ covering_from pairs nodes xs

-- The covering pairs between different strands, by first node and then by second.
abbrev pub covering_pairs : Skeleton → List Form
covering_pairs k = covering_from k.pairs (nodes_from 0 k.strands) (nodes_from 0 k.strands)

-- ---- assumptions, map, test and mark

abbrev pub unique_form : (Variable → Form) → UniqueAt → Form
unique_form named u = plain_list (atom_form named u.value ∷ node_form u.origin ∷ [])

-- For each problem variable its term here.
abbrev pub value_forms : (Variable → Form) → List (List ℕ) → List Term → List Form
value_forms named [] ts = []
value_forms named (x ∷ xs) [] = []
value_forms named (x ∷ xs) (t ∷ ts) = plain_list (word x ∷ term_form named t ∷ []) ∷ value_forms named xs ts

abbrev pub map_form : (Variable → Form) → List (List ℕ) → Skeleton → Form
map_form named names k = headed_list (codes "map") (plain_list (map numeral k.from_problem.strands) ∷ value_forms named names k.from_problem.values)

abbrev pub test_items : (Variable → Form) → Option Test → List Form
test_items named None = []
test_items named (Some t) = headed_list (codes "test") (node_form t.node ∷ term_form named t.critical ∷ []) ∷ []

abbrev pub mark_words : Mark → List Form
mark_words shape = word (codes "shape") ∷ []
mark_words dead = word (codes "dead") ∷ []
mark_words (seen n) = word (codes "seen") ∷ numeral n ∷ []
mark_words (instance_of n) = word (codes "instance-of") ∷ numeral n ∷ []
mark_words limit_steps = word (codes "limit") ∷ word (codes "steps") ∷ []
mark_words limit_strands = word (codes "limit") ∷ word (codes "strands") ∷ []

abbrev pub mark_items : Option Mark → List Form
mark_items None = []
mark_items (Some m) = plain_list (mark_words m) ∷ []

-- ---- labels and trees

-- The items of a label form. The assumptions stand in the order of a report, each once, whatever the order in which the
-- skeleton has them.
abbrev pub label_items : List (List ℕ) → List (List ℕ) → Label → List Form
label_items of_problem names l =
    let named = named_by names in
    parent_items l.parent
    ++ headed_list (codes "by") (operation_words l.operation) ∷ []
    ++ item_unless_empty (codes "vars") (vars_from names (occurring l) 0 l.skeleton.variables)
    ++ map (strand_form named) l.skeleton.strands
    ++ item_unless_empty (codes "precedes") (covering_pairs l.skeleton)
    ++ item_unless_empty (codes "non-orig") (map (atom_form named) (listed l.skeleton).non_originating)
    ++ item_unless_empty (codes "pen-non-orig") (map (atom_form named) (listed l.skeleton).penetrator_non_originating)
    ++ item_unless_empty (codes "uniq-orig") (map (unique_form named) (listed l.skeleton).uniquely_originating)
    ++ map_form named of_problem l.skeleton ∷ []
    ++ item_unless_empty (codes "unrealised") (map node_form l.unrealised)
    ++ test_items named l.test
    ++ item_unless_empty (codes "escape") (map (pattern_form named) l.escape)
    ++ item_unless_empty (codes "children") (map numeral l.children)
    ++ mark_items l.mark

-- A label form: its number, and its items, where of_problem are the names of the problem's variables.
abbrev pub label_form : List (List ℕ) → ℕ → Label → Form
label_form of_problem n l = headed_list (codes "label") (numeral n ∷ label_items of_problem (label_names of_problem (occurring l) l.skeleton.variables) l)

abbrev pub labels_from : List (List ℕ) → ℕ → List Label → List Form
labels_from of_problem n [] = []
labels_from of_problem n (l ∷ ls) = label_form of_problem n l ∷ labels_from of_problem (suc n) ls

abbrev pub outcome_words : Outcome → List Form
outcome_words complete = word (codes "complete") ∷ []
outcome_words at_step_limit = word (codes "limit") ∷ word (codes "steps") ∷ []
outcome_words at_strand_limit = word (codes "limit") ∷ word (codes "strands") ∷ []

abbrev pub one_if_shape : Option Mark → ℕ
one_if_shape (Some shape) = 1
one_if_shape _ = 0

-- How many labels are shapes.
abbrev pub shape_count : List Label → ℕ
shape_count [] = 0
shape_count (l ∷ ls) = one_if_shape l.mark + shape_count ls

-- The outcome, and how many labels there are, how many were expanded, and how many are shapes.
abbrev pub status_form : Tree → Form
status_form t = headed_list (codes "status") (outcome_words t.outcome
    ++ word (codes "labels") ∷ numeral (length t.labels) ∷ word (codes "expanded") ∷ numeral (expanded_count t.labels) ∷ word (codes "shapes") ∷ numeral (shape_count t.labels) ∷ [])

-- The labels of a problem's tree, and its status.
abbrev pub tree_forms : Problem → Tree → List Form
tree_forms p t = labels_from (problem_names p.declared p.variables) 0 t.labels ++ status_form t ∷ []

-- ---- the report

-- The forms of the input, each problem followed by its tree; the trees stand in the order of the problems.
abbrev pub report_from : Form → Option Problem → List Tree → (List Tree → List Form) → List Form
report_from f None ts rest = f ∷ rest ts
report_from f (Some p) [] rest = f ∷ rest []
report_from f (Some p) (t ∷ ts) rest = f ∷ (tree_forms p t ++ rest ts)

abbrev pub report_forms : List Entry → List Tree → List Form
report_forms [] ts = []
report_forms (e ∷ es) ts = report_from (form_of e) (stated e) ts (report_forms es)

abbrev pub text_of_forms : List Form → List ℕ
text_of_forms [] = []
text_of_forms (f ∷ fs) = top_spelling f ++ text_of_forms fs

-- The text of a report: its forms in normal spelling.
abbrev pub report_text : List Entry → List Tree → List ℕ
report_text entries trees = text_of_forms (report_forms entries trees)
