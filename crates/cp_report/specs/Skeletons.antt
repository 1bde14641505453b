-- The items of a label form that state a skeleton: where they do not fit, and the skeleton that they state.
use Rattle.std.specs.Prelude.{◌&&◌, ◌||◌, nat_lt, nat_le, ℕ, suc, List, [], ◌∷◌, ◌++◌, length, map, Bool, true, false, not, codes, if◌then◌else◌, Option, Some, None}
use Rattle.std.specs.List.{filter}
use Rattle.cp_base.specs.declared.place.Place.{Place}
use Rattle.cp_lists.specs.Lists.{item_at}
use Rattle.cp_model.specs.Term.{AtomTerm, Term, tag_term, atom_term, apply_to_atom}
use Rattle.cp_model.specs.Bindings.{bindings_of}
use Rattle.cp_model.specs.declared.variable.Variable.{Variable}
use Rattle.cp_model.specs.Strand.{Role, variables_of_prefix}
use Rattle.cp_model.specs.declared.strand.Event.{Event}
use Rattle.cp_model.specs.declared.strand.Event.TheVariants.{Send as send}
use Rattle.cp_model.specs.declared.variable.Declaration.{Declaration}
use Rattle.cp_model.specs.Bundle.{node_at}
use Rattle.cp_model.specs.declared.node.Node.{Node}
use Rattle.cp_model.specs.declared.node.OrderPair.{OrderPair}
use Rattle.cp_model.specs.Skeleton.{SkeletonStrand, instance, listener, term_event_at, UniqueAt, Assumptions, FromProblem, Skeleton}
use Rattle.cp_model.specs.Homomorphism.{SkeletonMap, strand_in, substitution_by}
use Rattle.cp_model.specs.Stated.{unique_image, pair_image}
use Rattle.cp_model.specs.Given.{has_atom, has_unique, given_non, given_penetrator_non, given_uniques}
use Rattle.cp_model.specs.Same.{same_text, same_node, carries, has_variable}
use Rattle.cp_sexpr.specs.Syntax.{Form}
use Rattle.cp_language.specs.Words.{is_one_of}
use Rattle.cp_language.specs.Faults.{place_of}
use Rattle.cp_language.specs.Terms.{variable_named, as_atom}
use Rattle.cp_language.specs.Roles.{text_of_symbol, sort_named, sort_or_text, list_items}
use Rattle.cp_language.specs.Problems.{role_named, is_known, first_form, second_form, number_of, name_in_front, node_of, option_node, on_one_strand, is_some_transmission, is_some_reception, pair_of_nodes, pair_of, pairs_in, Problem, reaches_within}
use Rattle.cp_language.specs.Names.{problem_names}
use Rattle.cp_report.specs.Misfits.{misfit, misfit_unless, unless_misfit, lacking, each_misfits, entries_misfits, list_misfits, number_misfits, symbol_misfits, any_number_misfits}
use Rattle.cp_report.specs.Heads.{has_head, forms_after_head, item_with, items_with, entries_under, optional_misfits, place_or, strand_heads}
use Rattle.cp_report.specs.Spelled.{Scope, plain_scope, names_sort, term_misfits, value_misfits, atom_misfits, term_in, atom_in}

-- ---- variables

-- The identifier in front of an entry that is a list.
abbrev pub identifier_of : Form → List ℕ
identifier_of f = name_in_front (list_items f)

-- `(ID SORT)`, the identifier being none of those before it.
abbrev pub vars_misfits : List (List ℕ) → List Form → List Place
vars_misfits before [] = []
vars_misfits before (f ∷ fs) =
    list_misfits (entries_misfits (symbol_misfits (λ t. not (is_one_of t before)) ∷ symbol_misfits names_sort ∷ [])) f
    ++ vars_misfits (identifier_of f ∷ before) fs

abbrev pub declaration_of : Form → Declaration
declaration_of f = record { identifier = identifier_of f; sort = sort_or_text (sort_named (second_form (list_items f))) }

-- The variables of a label form, numbered as they stand in its `vars`.
abbrev pub declarations_of_label : List Form → List Declaration
declarations_of_label items = map declaration_of (entries_under (codes "vars") items)

abbrev pub scope_of : List Form → Scope
scope_of items = plain_scope (declarations_of_label items)

-- ---- maplets

-- `(ID TERM)`: one of the wanted variables that was not mapped before, and a term of its sort.
abbrev pub maplet_misfits : Scope → List Declaration → List (List ℕ) → Place → List Form → List Place
maplet_misfits s wanted before at fs =
    entries_misfits (symbol_misfits (λ t. is_known (variable_named wanted t) && not (is_one_of t before)) ∷ value_misfits s (variable_named wanted (name_in_front fs)) ∷ []) at fs

abbrev pub maplets_misfits : Scope → List Declaration → List (List ℕ) → List Form → List Place
maplets_misfits s wanted before [] = []
maplets_misfits s wanted before (f ∷ fs) = list_misfits (maplet_misfits s wanted before) f ++ maplets_misfits s wanted (identifier_of f ∷ before) fs

-- Each of the wanted variables is among those that are mapped.
abbrev pub are_mapped : List Declaration → List (List ℕ) → Bool
are_mapped [] mapped = true
are_mapped (d ∷ ds) mapped = is_one_of d.identifier mapped && are_mapped ds mapped

-- Each wanted variable is mapped once, in any order, and no other; one that is missing is a misfit of the whole list.
abbrev pub mapping_misfits : Scope → List Declaration → Place → List Form → List Place
mapping_misfits s wanted at maplets = unless_misfit (maplets_misfits s wanted [] maplets) (misfit_unless (are_mapped wanted (map identifier_of maplets)) at)

abbrev pub term_or_tag : Scope → Option Form → Term
term_or_tag s None = tag_term []
term_or_tag s (Some f) = term_in s f

-- The term that maplets give an identifier.
abbrev pub value_mapped : Scope → List ℕ → List Form → Term
value_mapped s t [] = tag_term []
value_mapped s t (f ∷ fs) = if same_text t (identifier_of f) then term_or_tag s (second_form (list_items f)) else value_mapped s t fs

-- The terms of these variables, in their order.
abbrev pub values_mapped : Scope → List Form → List Declaration → List Term
values_mapped s maplets [] = []
values_mapped s maplets (d ∷ ds) = value_mapped s d.identifier maplets ∷ values_mapped s maplets ds

-- ---- strands

abbrev pub height_misfits : Option Role → Form → List Place
height_misfits None f = any_number_misfits f
height_misfits (Some role) f = number_misfits (λ n. nat_lt 0 n && nat_le n (length role.trace)) f

-- The variables of a prefix in the role's order, the first of the list having number n.
abbrev pub declared_in_prefix : List Variable → ℕ → List Declaration → List Declaration
declared_in_prefix prefix n [] = []
declared_in_prefix prefix n (d ∷ ds) =
    if has_variable prefix (record { sort = d.sort; number = n }) then d ∷ declared_in_prefix prefix (suc n) ds else declared_in_prefix prefix (suc n) ds

abbrev pub prefix_misfits : Scope → Option Role → ℕ → Place → List Form → List Place
prefix_misfits s None height at maplets = []
prefix_misfits s (Some role) height at maplets = mapping_misfits s (declared_in_prefix (variables_of_prefix role height) 0 role.variables) at maplets

-- An instance: a role of the protocol, a height that it has, and then a maplet for each variable of the prefix.
abbrev pub instance_misfits : List Role → Scope → Place → List Form → List Place
instance_misfits roles s at (name ∷ height ∷ maplets) =
    unless_misfit (symbol_misfits (λ t. is_known (role_named roles t)) name ++ height_misfits (role_named roles (text_of_symbol name)) height)
    (prefix_misfits s (role_named roles (text_of_symbol name)) (number_of height) at maplets)
instance_misfits roles s at _ = misfit at

abbrev pub states_instance : Form → Bool
states_instance f = has_head (codes "defstrand" ∷ []) f

-- An instance, or a listener to one term.
abbrev pub strand_misfits : List Role → Scope → Form → List Place
strand_misfits roles s f = if states_instance f then instance_misfits roles s (place_of f) (forms_after_head f) else entries_misfits (term_misfits s ∷ []) (place_of f) (forms_after_head f)

abbrev pub instance_with : Scope → Option Role → ℕ → List Form → SkeletonStrand
instance_with s None height maplets = listener (tag_term [])
instance_with s (Some role) height maplets = instance role height (bindings_of (values_mapped s maplets role.variables))

abbrev pub instance_of_entries : List Role → Scope → List Form → SkeletonStrand
instance_of_entries roles s (name ∷ height ∷ maplets) = instance_with s (role_named roles (text_of_symbol name)) (number_of height) maplets
instance_of_entries roles s _ = listener (tag_term [])

abbrev pub strand_of : List Role → Scope → Form → SkeletonStrand
strand_of roles s f = if states_instance f then instance_of_entries roles s (forms_after_head f) else listener (term_or_tag s (first_form (forms_after_head f)))

-- The strands of a label form in order.
abbrev pub strands_of_label : Problem → List Form → List SkeletonStrand
strands_of_label p items = map (strand_of p.protocol.roles (scope_of items)) (items_with strand_heads items)

-- ---- nodes and order

abbrev pub there_misfits : List SkeletonStrand → Place → Option Node → List Place
there_misfits strands at None = []
there_misfits strands at (Some n) = misfit_unless (is_known (term_event_at strands n)) at

-- `(STRAND INDEX)`, a node that is there.
abbrev pub node_misfits : List SkeletonStrand → Form → List Place
node_misfits strands f = list_misfits (entries_misfits (any_number_misfits ∷ any_number_misfits ∷ [])) f ++ there_misfits strands (place_of f) (node_of f)

abbrev pub has_pair : List OrderPair → OrderPair → Bool
has_pair [] p = false
has_pair (q ∷ qs) p = (same_node q.earlier p.earlier && same_node q.later p.later) || has_pair qs p

-- The pair goes from a transmission to a reception of another strand, does not stand before, and closes no cycle with
-- strand order and the pairs before it.
abbrev pub is_further_pair : List SkeletonStrand → List OrderPair → Option OrderPair → Bool
is_further_pair strands before None = true
is_further_pair strands before (Some p) =
    is_some_transmission (term_event_at strands p.earlier) && is_some_reception (term_event_at strands p.later) && not (on_one_strand p)
    && not (has_pair before p) && not (reaches_within (length before) before p.later p.earlier)

abbrev pub pair_stated : Form → Option OrderPair
pair_stated f = pair_of_nodes (option_node (first_form (list_items f))) (option_node (second_form (list_items f)))

abbrev pub pair_misfits : List SkeletonStrand → List OrderPair → Form → List Place
pair_misfits strands before f =
    unless_misfit (list_misfits (entries_misfits (node_misfits strands ∷ node_misfits strands ∷ [])) f) (misfit_unless (is_further_pair strands before (pair_stated f)) (place_of f))

abbrev pub pairs_misfits : List SkeletonStrand → List OrderPair → List Form → List Place
pairs_misfits strands before [] = []
pairs_misfits strands before (f ∷ fs) = pair_misfits strands before f ++ pairs_misfits strands (before ++ pair_of f) fs

-- At least one pair.
abbrev pub precedes_misfits : List SkeletonStrand → Place → List Form → List Place
precedes_misfits strands at fs = lacking 1 at fs ++ pairs_misfits strands [] fs

-- ---- assumptions

-- Atoms, none of them twice.
abbrev pub atoms_misfits : Scope → List AtomTerm → List Form → List Place
atoms_misfits s before [] = []
atoms_misfits s before (f ∷ fs) = unless_misfit (atom_misfits s f) (misfit_unless (not (has_atom before (atom_in s f))) (place_of f)) ++ atoms_misfits s (before ++ atom_in s f ∷ []) fs

abbrev pub has_atoms : List AtomTerm → List AtomTerm → Bool
has_atoms vs [] = true
has_atoms vs (w ∷ ws) = has_atom vs w && has_atoms vs ws

abbrev pub has_uniques : List UniqueAt → List UniqueAt → Bool
has_uniques us [] = true
has_uniques us (w ∷ ws) = has_unique us w && has_uniques us ws

-- At least one entry, and all that the strands' roles give; what is missing is a misfit of the item, or where it is not
-- there of the label form.
abbrev pub assumption_misfits : Place → Option Form → (List Form → List Place) → Bool → List Place
assumption_misfits at item inside has_given =
    unless_misfit (optional_misfits (λ p fs. lacking 1 p fs ++ inside fs) item) (misfit_unless has_given (place_or at item))

abbrev pub atoms_under : List ℕ → List Form → List AtomTerm
atoms_under head items = map (atom_in (scope_of items)) (entries_under head items)

-- Values that originate nowhere, or with the penetrator nowhere, of which the roles give these.
abbrev pub values_misfits : Place → List ℕ → List AtomTerm → List Form → List Place
values_misfits at head given items = assumption_misfits at (item_with (head ∷ []) items) (atoms_misfits (scope_of items) []) (has_atoms (atoms_under head items) given)

abbrev pub carries_value : AtomTerm → Option (Event Term) → Bool
carries_value v (Some (send m)) = carries m (atom_term v)
carries_value v _ = false

abbrev pub is_instance_there : Option SkeletonStrand → Bool
is_instance_there (Some (instance role height terms)) = true
is_instance_there _ = false

-- The node is a transmission of an instance that carries the value.
abbrev pub may_be_origin : List SkeletonStrand → AtomTerm → Node → Bool
may_be_origin strands v n = is_instance_there (item_at strands n.strand) && carries_value v (term_event_at strands n)

abbrev pub node_or_first : Option Node → Node
node_or_first None = node_at 0 0
node_or_first (Some n) = n

-- `(TERM NODE)`: a value and its recorded origin.
abbrev pub unique_of : Scope → Form → UniqueAt
unique_of s f = record { value = as_atom (term_or_tag s (first_form (list_items f))); origin = node_or_first (option_node (second_form (list_items f))) }

abbrev pub second_place : Form → Option Form → Place
second_place f None = place_of f
second_place f (Some g) = place_of g

abbrev pub unique_misfits : Scope → List SkeletonStrand → List UniqueAt → Form → List Place
unique_misfits s strands before f =
    unless_misfit (list_misfits (entries_misfits (atom_misfits s ∷ node_misfits strands ∷ [])) f)
    (unless_misfit (misfit_unless (may_be_origin strands (unique_of s f).value (unique_of s f).origin) (second_place f (second_form (list_items f))))
    (misfit_unless (not (has_unique before (unique_of s f))) (place_of f)))

abbrev pub uniques_misfits : Scope → List SkeletonStrand → List UniqueAt → List Form → List Place
uniques_misfits s strands before [] = []
uniques_misfits s strands before (f ∷ fs) = unique_misfits s strands before f ++ uniques_misfits s strands (before ++ unique_of s f ∷ []) fs

abbrev pub uniques_under : List Form → List UniqueAt
uniques_under items = map (unique_of (scope_of items)) (entries_under (codes "uniq-orig") items)

abbrev pub all_uniques_misfits : Place → List SkeletonStrand → List Form → List Place
all_uniques_misfits at strands items =
    assumption_misfits at (item_with (codes "uniq-orig" ∷ []) items) (uniques_misfits (scope_of items) strands []) (has_uniques (uniques_under items) (given_uniques 0 strands))

-- ---- the map from the problem

abbrev pub named_declarations : List (List ℕ) → List Declaration → List Declaration
named_declarations [] ds = []
named_declarations (x ∷ xs) [] = []
named_declarations (x ∷ xs) (d ∷ ds) = record { identifier = x; sort = d.sort } ∷ named_declarations xs ds

-- The variables of a problem under their names in a report.
abbrev pub problem_variables : Problem → List Declaration
problem_variables p = named_declarations (problem_names p.declared p.variables) p.variables

-- The number of a strand of the label.
abbrev pub strand_number_misfits : List SkeletonStrand → Form → List Place
strand_number_misfits strands f = number_misfits (λ n. nat_lt n (length strands)) f

-- First a list with a strand for each of the problem's, and then a maplet for each of its variables.
abbrev pub map_misfits : Problem → Scope → List SkeletonStrand → Place → List Form → List Place
map_misfits p s strands at [] = misfit at
map_misfits p s strands at (f ∷ maplets) =
    list_misfits (entries_misfits (map (λ k. strand_number_misfits strands) p.skeleton.strands)) f ++ mapping_misfits s (problem_variables p) at maplets

abbrev pub strands_mapped : List Form → List ℕ
strands_mapped [] = []
strands_mapped (f ∷ fs) = map number_of (list_items f)

abbrev pub values_of_map : Problem → Scope → List Form → List Term
values_of_map p s [] = []
values_of_map p s (f ∷ maplets) = values_mapped s maplets (problem_variables p)

abbrev pub map_by : List ℕ → List Term → SkeletonMap
map_by strands values = record { strands = strand_in strands; terms = substitution_by values }

-- Of the images of assumptions those that are among these.
abbrev pub images_among : Assumptions → SkeletonMap → Assumptions → Assumptions
images_among listed f own = record {
  non_originating = filter (has_atom listed.non_originating) (map (apply_to_atom f.terms) own.non_originating);
  penetrator_non_originating = filter (has_atom listed.penetrator_non_originating) (map (apply_to_atom f.terms) own.penetrator_non_originating);
  uniquely_originating = filter (has_unique listed.uniquely_originating) (map (unique_image f) own.uniquely_originating);
}

-- The pair is between two strands, and the order that these pairs generate has it.
abbrev pub is_in_order : List SkeletonStrand → List OrderPair → OrderPair → Bool
is_in_order strands pairs p = not (on_one_strand p) && is_known (term_event_at strands p.later) && reaches_within (length pairs) pairs p.earlier p.later

-- The way from the problem: strands and terms as the map states them; and of what the problem states itself the images
-- that the label has, in its assumptions and between different strands in its order.
abbrev pub from_problem_by : Problem → List SkeletonStrand → List OrderPair → Assumptions → List ℕ → List Term → FromProblem
from_problem_by p strands pairs listed to_strands values =
    let f = map_by to_strands values in record {
      strands = to_strands;
      values = values;
      assumptions = images_among listed f p.skeleton.from_problem.assumptions;
      pairs = filter (is_in_order strands pairs) (map (pair_image f) p.skeleton.from_problem.pairs);
    }

abbrev pub pairs_under : List Form → List OrderPair
pairs_under items = pairs_in (entries_under (codes "precedes") items)

abbrev pub assumptions_stated : List Form → Assumptions
assumptions_stated items = record {
  non_originating = atoms_under (codes "non-orig") items;
  penetrator_non_originating = atoms_under (codes "pen-non-orig") items;
  uniquely_originating = uniques_under items;
}

abbrev pub from_problem_of : Problem → List Form → FromProblem
from_problem_of p items =
    let way = entries_under (codes "map") items in
    from_problem_by p (strands_of_label p items) (pairs_under items) (assumptions_stated items) (strands_mapped way) (values_of_map p (scope_of items) way)

-- ---- all of them

-- Where `vars` does not fit: it lists at least one variable.
abbrev pub vars_item_misfits : List Form → List Place
vars_item_misfits items = optional_misfits (λ at fs. lacking 1 at fs ++ vars_misfits [] fs) (item_with (codes "vars" ∷ []) items)

-- Where the strands do not fit.
abbrev pub strands_misfits : Problem → List Form → List Place
strands_misfits p items = each_misfits (strand_misfits p.protocol.roles (scope_of items)) (items_with strand_heads items)

-- Where the items behind the strands that state the skeleton do not fit, in the label form that stands here.
abbrev pub around_strands_misfits : Problem → Place → List Form → List Place
around_strands_misfits p at items =
    let strands = strands_of_label p items in
    optional_misfits (precedes_misfits strands) (item_with (codes "precedes" ∷ []) items)
    ++ values_misfits at (codes "non-orig") (given_non strands) items
    ++ values_misfits at (codes "pen-non-orig") (given_penetrator_non strands) items
    ++ all_uniques_misfits at strands items
    ++ optional_misfits (map_misfits p (scope_of items) strands) (item_with (codes "map" ∷ []) items)

-- The skeleton that the items of a label form state.
abbrev pub skeleton_stated : Problem → List Form → Skeleton
skeleton_stated p items = record {
  variables = declarations_of_label items;
  strands = strands_of_label p items;
  pairs = pairs_under items;
  assumptions = assumptions_stated items;
  from_problem = from_problem_of p items;
}
