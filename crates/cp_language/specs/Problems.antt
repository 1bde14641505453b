-- Problems of the input: their faults, and the skeletons that they state.
use Rattle.std.specs.Prelude.{◌==◌, ◌&&◌, ◌||◌, nat_lt, nat_le, ℕ, suc, ◌+◌, List, [], ◌∷◌, ◌++◌, length, Bool, true, false, not, if◌then◌else◌, Option, Some, None}
use Rattle.cp_base.specs.declared.place.Place.{Place}
use Rattle.cp_base.specs.declared.place.Code.TheVariants.{UnknownForm, OutOfProfile, BadShape, UnknownProtocol, UnknownRole, DuplicateVar, BadHeight, UnknownVar, NotInPrefix, UniqNowhere, BadNode, CyclicOrder}
use Rattle.cp_base.specs.declared.place.Refusal.{Refusal}
use Rattle.cp_model.specs.Term.{variable_term, AtomTerm, Term, tag_term, atom_term}
use Rattle.cp_model.specs.Bindings.{bindings_of}
use Rattle.cp_model.specs.declared.sort.Sort.{Sort}
use Rattle.cp_model.specs.declared.variable.Variable.{Variable}
use Rattle.cp_model.specs.Strand.{Role, Protocol, variables_of_prefix}
use Rattle.cp_model.specs.declared.strand.Event.{Event}
use Rattle.cp_model.specs.declared.strand.Event.TheVariants.{Send as send, Receive as recv}
use Rattle.cp_model.specs.declared.variable.Declaration.{Declaration}
use Rattle.cp_model.specs.Bundle.{node_at}
use Rattle.cp_model.specs.declared.node.Node.{Node}
use Rattle.cp_model.specs.Skeleton.{SkeletonStrand, instance, listener, skeleton_trace, term_event_at, UniqueAt, Assumptions, Skeleton}
use Rattle.cp_model.specs.declared.node.OrderPair.{OrderPair}
pub use Rattle.cp_model.specs.OrderTests.{at_or_after, any_pair, reaches_within}
use Rattle.cp_model.specs.Problem.{numbers_from, variable_terms}
use Rattle.cp_sexpr.specs.Syntax.{Form, symbol, number, list}
use Rattle.cp_model.specs.Given.{atoms_onto, uniques_onto, with_given}
use Rattle.cp_model.specs.Same.{same_text, origin_in, has_variable}
use Rattle.cp_language.specs.declared.words.ItemHead.{ItemHead}
use Rattle.cp_language.specs.declared.words.ItemHead.TheVariants.{Role as role_item, Non as non_item, PenetratorNon as penetrator_non_item, Unique as unique_item, Strand as strand_item, Listener as listener_item, Precedes as precedes_item, Comment as comment_item, OutOfProfile as item_out_of_profile, Unknown as no_item}
use Rattle.cp_language.specs.Words.{is_one_of}
use Rattle.cp_language.specs.Faults.{fault, fault_unless, place_of, items_of}
use Rattle.cp_language.specs.Terms.{variable_named, lacks, exceeds, sort_faults, term_faults, atom_faults, term_of, as_atom}
use Rattle.cp_language.specs.Roles.{headed, text_of_symbol, list_items, item_or_none, items_behind, vars_faults, declarations_of, unless_faulty, each_faults, item_faults, forms_under, is_non_item, is_penetrator_non_item, is_unique_item, atoms_in}

-- ---- names that stand above

abbrev pub protocol_named : List Protocol → List ℕ → Option Protocol
protocol_named [] t = None
protocol_named (p ∷ ps) t = if same_text p.name t then Some p else protocol_named ps t

abbrev pub role_named : List Role → List ℕ → Option Role
role_named [] t = None
role_named (r ∷ rs) t = if same_text r.name t then Some r else role_named rs t

-- ---- strands: faults

abbrev pub is_known : {A : Type 0} → Option A → Bool
is_known None = false
is_known (Some x) = true

-- A role's name: a symbol that names a role of the protocol.
abbrev pub role_name_faults : List Role → Form → List Refusal
role_name_faults roles (symbol at t) = fault_unless (is_known (role_named roles t)) at UnknownRole
role_name_faults roles f = fault (place_of f) BadShape

-- A height from 1 to the length of the role's trace.
abbrev pub height_faults : Option Role → Form → List Refusal
height_faults (Some role) (number at n) = fault_unless (nat_lt 0 n && nat_le n (length role.trace)) at BadHeight
height_faults None (number at n) = []
height_faults role f = fault (place_of f) BadShape

-- The variable on the left of a maplet: one of the role's, in the prefix, of the sort of the term on the right.
abbrev pub role_variable_faults : Role → ℕ → List Declaration → Place → Option Form → Option Variable → List Refusal
role_variable_faults role height ds at term None = fault at UnknownVar
role_variable_faults role height ds at term (Some x) =
    fault_unless (has_variable (variables_of_prefix role height) x) at NotInPrefix ++ term_sort_faults term
  where
    term_sort_faults : Option Form → List Refusal
    term_sort_faults None = []
    term_sort_faults (Some f) = sort_faults ds x.sort f

abbrev pub mapped_faults : Role → ℕ → List Declaration → List (List ℕ) → Form → Option Form → List Refusal
mapped_faults role height ds before (symbol at t) term =
    (if is_one_of t before then fault at DuplicateVar else []) ++ role_variable_faults role height ds at term (variable_named role.variables t)
mapped_faults role height ds before f term = fault (place_of f) BadShape

abbrev pub first_form : List Form → Option Form
first_form [] = None
first_form (f ∷ fs) = Some f

abbrev pub second_form : List Form → Option Form
second_form [] = None
second_form (f ∷ fs) = first_form fs

abbrev pub second_term_faults : List Declaration → Option Form → List Refusal
second_term_faults ds None = []
second_term_faults ds (Some f) = term_faults ds f

-- One maplet: an identifier and a term.
abbrev pub maplet_items_faults : Role → ℕ → List Declaration → List (List ℕ) → Place → List Form → List Refusal
maplet_items_faults role height ds before at [] = fault at BadShape
maplet_items_faults role height ds before at (f ∷ fs) =
    lacks 1 at fs ++ mapped_faults role height ds before f (first_form fs) ++ second_term_faults ds (first_form fs) ++ exceeds 1 fs

abbrev pub maplet_faults : Role → ℕ → List Declaration → List (List ℕ) → Form → List Refusal
maplet_faults role height ds before (list at fs) = maplet_items_faults role height ds before at (items_of fs)
maplet_faults role height ds before f = fault (place_of f) BadShape

abbrev pub mapped_identifier : Form → List (List ℕ)
mapped_identifier f = go (first_form (list_items f))
  where
    go : Option Form → List (List ℕ)
    go None = []
    go (Some g) = text_of_symbol g ∷ []

abbrev pub maplets_faults : Role → ℕ → List Declaration → List (List ℕ) → List Form → List Refusal
maplets_faults role height ds before [] = []
maplets_faults role height ds before (f ∷ fs) = maplet_faults role height ds before f ++ maplets_faults role height ds (mapped_identifier f ++ before) fs

abbrev pub number_of : Form → ℕ
number_of (number at n) = n
number_of _ = 0

abbrev pub maplets_faults_of : Option Role → Form → List Declaration → List Form → List Refusal
maplets_faults_of None height ds fs = []
maplets_faults_of (Some role) height ds fs = maplets_faults role (number_of height) ds [] fs

-- An instance, behind its head: a role's name, a height, and maplets.
abbrev pub instance_faults : List Role → List Declaration → Place → List Form → List Refusal
instance_faults roles ds at (name ∷ height ∷ maplets) =
    role_name_faults roles name ++ height_faults (role_named roles (text_of_symbol name)) height ++ maplets_faults_of (role_named roles (text_of_symbol name)) height ds maplets
instance_faults roles ds at _ = fault at BadShape

-- A listener, behind its head: one term.
abbrev pub listener_faults : List Declaration → Place → List Form → List Refusal
listener_faults ds at [] = fault at BadShape
listener_faults ds at (f ∷ fs) = term_faults ds f ++ exceeds 0 fs

-- ---- strands: what they stand for

-- The term that an instance's maplets give an identifier.
abbrev pub term_mapped : List Declaration → List ℕ → List Form → Option Term
term_mapped ds t [] = None
term_mapped ds t (f ∷ fs) = if is_one_of t (mapped_identifier f) then Some (message (second_form (list_items f))) else term_mapped ds t fs
  where
    message : Option Form → Term
    message None = tag_term []
    message (Some g) = term_of ds g

-- The terms of an instance's variables, in their order, and the variables that are made for it: a variable of the
-- prefix without a maplet gets a fresh one, named after it. Variables outside the prefix have no term.
pub record Instantiated : Type 0 where
  pub terms : List Term
  pub fresh : List Declaration

abbrev pub with_term : Term → List Declaration → Instantiated → Instantiated
with_term t fresh i = record { terms = t ∷ i.terms; fresh = fresh ++ i.fresh }

-- A role variable of the prefix, number n of the role, that has no maplet.
abbrev pub is_fresh : List Variable → List Declaration → List Form → ℕ → Declaration → Bool
is_fresh prefix ds maplets n d = not (is_known (term_mapped ds d.identifier maplets)) && has_variable prefix (record { sort = d.sort; number = n })

abbrev pub term_or_fresh : Option Term → Bool → Sort → ℕ → Term
term_or_fresh (Some t) fresh s next = t
term_or_fresh None true s next = variable_term (record { sort = s; number = next })
term_or_fresh None false s next = tag_term []

-- next is the number of the next fresh variable, and n that of the first role variable of the list.
abbrev pub instantiated : List Variable → List Declaration → List Form → ℕ → ℕ → List Declaration → Instantiated
instantiated prefix ds maplets next n [] = record { terms = []; fresh = [] }
instantiated prefix ds maplets next n (d ∷ rest) =
    let fresh = is_fresh prefix ds maplets n d in
    with_term (term_or_fresh (term_mapped ds d.identifier maplets) fresh d.sort next) (if fresh then d ∷ [] else [])
    (instantiated prefix ds maplets (if fresh then suc next else next) (suc n) rest)

-- The strands of a problem and the variables made for them.
pub record Strands : Type 0 where
  pub strands : List SkeletonStrand
  pub fresh : List Declaration

abbrev pub instance_of_role : Role → List Declaration → ℕ → ℕ → List Form → Instantiated
instance_of_role role ds next height maplets = instantiated (variables_of_prefix role height) ds maplets next 0 role.variables

abbrev pub instance_by : Option Role → List Declaration → ℕ → List Form → SkeletonStrand × List Declaration
instance_by (Some role) ds next (name ∷ height ∷ maplets) =
    let i = instance_of_role role ds next (number_of height) maplets in (instance role (number_of height) (bindings_of i.terms), i.fresh)
instance_by role ds next fs = (listener (tag_term []), [])

abbrev pub name_in_front : List Form → List ℕ
name_in_front [] = []
name_in_front (f ∷ fs) = text_of_symbol f

abbrev pub listened_term : List Declaration → List Form → Term
listened_term ds [] = tag_term []
listened_term ds (f ∷ fs) = term_of ds f

-- One strand, by the head of its list, and the variables made for it; other items make none.
abbrev pub strand_by : List Role → List Declaration → ℕ → ItemHead → List Form → Option (SkeletonStrand × List Declaration)
strand_by roles ds next strand_item fs = Some (instance_by (role_named roles (name_in_front fs)) ds next fs)
strand_by roles ds next listener_item fs = Some (listener (listened_term ds fs), [])
strand_by roles ds next _ fs = None

abbrev pub fresh_of : Option (SkeletonStrand × List Declaration) → List Declaration
fresh_of None = []
fresh_of (Some s) = s.1

abbrev pub with_strand : Option (SkeletonStrand × List Declaration) → Strands → Strands
with_strand None rest = rest
with_strand (Some s) rest = record { strands = s.0 ∷ rest.strands; fresh = s.1 ++ rest.fresh }

-- The strands in order, the next fresh variable having this number.
abbrev pub strands_from : List Role → List Declaration → ℕ → List Form → Strands
strands_from roles ds next [] = record { strands = []; fresh = [] }
strands_from roles ds next (f ∷ fs) =
    let strand = strand_by roles ds next (item_or_none (headed f)) (items_behind (headed f)) in
    with_strand strand (strands_from roles ds (next + length (fresh_of strand)) fs)

-- ---- nodes and pairs

-- A node, as two numbers; none where it is not written so.
abbrev pub node_of_numbers : Option Form → Option Form → Option Node
node_of_numbers (Some (number p s)) (Some (number q i)) = Some (node_at s i)
node_of_numbers _ _ = None

abbrev pub node_of : Form → Option Node
node_of f = node_of_numbers (first_form (list_items f)) (second_form (list_items f))

abbrev pub number_faults : Form → List Refusal
number_faults (number at n) = []
number_faults f = fault (place_of f) BadShape

abbrev pub two_number_faults : List Form → List Refusal
two_number_faults [] = []
two_number_faults (f ∷ []) = number_faults f
two_number_faults (f ∷ g ∷ fs) = number_faults f ++ number_faults g

abbrev pub range_faults : List SkeletonStrand → Place → Option Node → List Refusal
range_faults strands at None = []
range_faults strands at (Some n) = fault_unless (is_known (term_event_at strands n)) at BadNode

-- Two numbers, of a node that is there.
abbrev pub node_faults : List SkeletonStrand → Form → List Refusal
node_faults strands (list at fs) = lacks 2 at (items_of fs) ++ range_faults strands at (node_of (list at fs)) ++ two_number_faults (items_of fs)
node_faults strands f = fault (place_of f) BadShape

abbrev pub on_one_strand : OrderPair → Bool
on_one_strand p = p.earlier.strand == p.later.strand

-- The pair goes back or stays on one strand, or closes a cycle with strand order and the pairs before it.
abbrev pub closes_cycle : List OrderPair → OrderPair → Bool
closes_cycle before p = if on_one_strand p then nat_le p.later.index p.earlier.index else reaches_within (length before) before p.later p.earlier

abbrev pub is_some_transmission : Option (Event Term) → Bool
is_some_transmission (Some (send m)) = true
is_some_transmission _ = false

abbrev pub is_some_reception : Option (Event Term) → Bool
is_some_reception (Some (recv m)) = true
is_some_reception _ = false

-- Between two strands the first node is a transmission and the second a reception.
abbrev pub direction_faults : List SkeletonStrand → Form → Form → OrderPair → List Refusal
direction_faults strands f g p =
    if on_one_strand p then [] else
    fault_unless (is_some_transmission (term_event_at strands p.earlier)) (place_of f) BadNode ++ fault_unless (is_some_reception (term_event_at strands p.later)) (place_of g) BadNode

abbrev pub pair_of_nodes : Option Node → Option Node → Option OrderPair
pair_of_nodes (Some x) (Some y) = Some (record { earlier = x; later = y })
pair_of_nodes _ _ = None

abbrev pub order_faults : List SkeletonStrand → List OrderPair → Place → Form → Form → Option OrderPair → List Refusal
order_faults strands before at f g None = []
order_faults strands before at f g (Some p) = if closes_cycle before p then fault at CyclicOrder else direction_faults strands f g p

-- A pair: first its nodes are read and found, then the cycle is judged, and then the directions. Items too many come
-- after what the others decide.
abbrev pub pair_items_faults : List SkeletonStrand → List OrderPair → Place → List Form → List Refusal
pair_items_faults strands before at (f ∷ g ∷ rest) =
    unless_faulty (node_faults strands f ++ node_faults strands g) (order_faults strands before at f g (pair_of_nodes (node_of f) (node_of g)))
    ++ exceeds 2 (list_items f) ++ exceeds 2 (list_items g) ++ exceeds 0 rest
pair_items_faults strands before at _ = fault at BadShape

abbrev pub pair_faults : List SkeletonStrand → List OrderPair → Form → List Refusal
pair_faults strands before (list at fs) = pair_items_faults strands before at (items_of fs)
pair_faults strands before f = fault (place_of f) BadShape

-- The pair that a form states, if it is between two strands.
abbrev pub between_strands : Option OrderPair → List OrderPair
between_strands None = []
between_strands (Some p) = if on_one_strand p then [] else p ∷ []

abbrev pub option_node : Option Form → Option Node
option_node None = None
option_node (Some f) = node_of f

abbrev pub pair_of : Form → List OrderPair
pair_of f = between_strands (pair_of_nodes (option_node (first_form (list_items f))) (option_node (second_form (list_items f))))

abbrev pub is_precedes_item : ItemHead → Bool
is_precedes_item precedes_item = true
is_precedes_item _ = false

abbrev pub pairs_in : List Form → List OrderPair
pairs_in [] = []
pairs_in (f ∷ fs) = pair_of f ++ pairs_in fs

abbrev pub pairs_faults : List SkeletonStrand → List OrderPair → List Form → List Refusal
pairs_faults strands before [] = []
pairs_faults strands before (f ∷ fs) = pair_faults strands before f ++ pairs_faults strands (before ++ pair_of f) fs

-- ---- items of a problem

-- The places at which a value originates on the instances, by strand, the first of the list having number s.
abbrev pub origins_on : SkeletonStrand → ℕ → AtomTerm → List UniqueAt
origins_on (listener t) s v = []
origins_on (instance role height terms) s v = go (origin_in (skeleton_trace (instance role height terms)) (atom_term v))
  where
    go : Option ℕ → List UniqueAt
    go None = []
    go (Some i) = record { value = v; origin = node_at s i } ∷ []

abbrev pub origins_from : ℕ → List SkeletonStrand → AtomTerm → List UniqueAt
origins_from s [] v = []
origins_from s (k ∷ ks) v = origins_on k s v ++ origins_from (suc s) ks v

abbrev pub is_not_empty : {A : Type 0} → List A → Bool
is_not_empty [] = false
is_not_empty (x ∷ xs) = true

abbrev pub unique_faults : List SkeletonStrand → List Declaration → Form → List Refusal
unique_faults strands ds f = unless_faulty (atom_faults ds f) (fault_unless (is_not_empty (origins_from 0 strands (as_atom (term_of ds f)))) (place_of f) UniqNowhere)

-- Strands stand before items: whether a strand and whether an item stood before.
pub record ItemStage : Type 0 where
  pub after_strand : Bool
  pub after_item : Bool

abbrev pub misplaced_unless : Bool → Place → List Refusal → List Refusal
misplaced_unless true at others = others
misplaced_unless false at others = fault at UnknownForm

abbrev pub problem_item_faults : List Role → List Declaration → List SkeletonStrand → List OrderPair → ItemStage → Place → ItemHead → List Form → List Refusal
problem_item_faults roles ds strands before stage at strand_item fs = misplaced_unless (not stage.after_item) at (instance_faults roles ds at fs)
problem_item_faults roles ds strands before stage at listener_item fs = misplaced_unless (not stage.after_item) at (listener_faults ds at fs)
problem_item_faults roles ds strands before stage at non_item fs = misplaced_unless stage.after_strand at (each_faults (atom_faults ds) fs)
problem_item_faults roles ds strands before stage at penetrator_non_item fs = misplaced_unless stage.after_strand at (each_faults (atom_faults ds) fs)
problem_item_faults roles ds strands before stage at unique_item fs = misplaced_unless stage.after_strand at (each_faults (unique_faults strands ds) fs)
problem_item_faults roles ds strands before stage at precedes_item fs = misplaced_unless stage.after_strand at (pairs_faults strands before fs)
problem_item_faults roles ds strands before stage at comment_item fs = []
problem_item_faults roles ds strands before stage at item_out_of_profile fs = fault at OutOfProfile
problem_item_faults roles ds strands before stage at role_item fs = fault at UnknownForm
problem_item_faults roles ds strands before stage at no_item fs = fault at UnknownForm

abbrev pub is_strand_item : ItemHead → Bool
is_strand_item strand_item = true
is_strand_item listener_item = true
is_strand_item _ = false

abbrev pub is_assumption_or_order : ItemHead → Bool
is_assumption_or_order non_item = true
is_assumption_or_order penetrator_non_item = true
is_assumption_or_order unique_item = true
is_assumption_or_order precedes_item = true
is_assumption_or_order _ = false

abbrev pub stage_after : ItemStage → ItemHead → ItemStage
stage_after stage h = record { after_strand = stage.after_strand || is_strand_item h; after_item = stage.after_item || is_assumption_or_order h }

abbrev pub pairs_if : Bool → List Form → List OrderPair
pairs_if true fs = pairs_in fs
pairs_if false fs = []

abbrev pub body_faults : List Role → List Declaration → List SkeletonStrand → List OrderPair → ItemStage → List Form → List Refusal
body_faults roles ds strands before stage [] = []
body_faults roles ds strands before stage (f ∷ fs) =
    item_faults (problem_item_faults roles ds strands before stage) f
    ++ body_faults roles ds strands (before ++ pairs_if (is_precedes_item (item_or_none (headed f))) (items_behind (headed f))) (stage_after stage (item_or_none (headed f))) fs

-- Some list is headed as a strand.
abbrev pub has_strand : List Form → Bool
has_strand [] = false
has_strand (f ∷ fs) = is_strand_item (item_or_none (headed f)) || has_strand fs

abbrev pub roles_of : Option Protocol → List Role
roles_of None = []
roles_of (Some p) = p.roles

-- A protocol's name: a symbol that names a protocol above.
abbrev pub protocol_name_faults : List Protocol → Form → List Refusal
protocol_name_faults above (symbol at t) = fault_unless (is_known (protocol_named above t)) at UnknownProtocol
protocol_name_faults above f = fault (place_of f) BadShape

-- Strands stand before the first item that is no comment; one behind it is in the wrong place, and does not count.
abbrev pub before_items : List Form → List Form
before_items [] = []
before_items (f ∷ fs) = if is_assumption_or_order (item_or_none (headed f)) then [] else f ∷ before_items fs

abbrev pub problem_strands : List Role → List Declaration → List Form → Strands
problem_strands roles ds body = strands_from roles ds (length ds) (before_items body)

-- A problem, behind its head: a protocol's name, its variables, strands, and then items.
abbrev pub problem_faults : List Protocol → Place → List Form → List Refusal
problem_faults above at (name ∷ vars ∷ body) =
    fault_unless (has_strand (vars ∷ body)) at BadShape ++ protocol_name_faults above name ++ vars_faults vars
    ++ body_faults (roles_of (protocol_named above (text_of_symbol name))) (declarations_of vars)
    (problem_strands (roles_of (protocol_named above (text_of_symbol name))) (declarations_of vars) body).strands []
    (record { after_strand = false; after_item = false }) body
problem_faults above at _ = fault at BadShape

-- ---- what a problem stands for

-- The recorded origins of a problem's unique values: all nodes of its instances at which they originate.
abbrev pub own_uniques : List SkeletonStrand → List AtomTerm → List UniqueAt
own_uniques strands [] = []
own_uniques strands (v ∷ vs) = origins_from 0 strands v ++ own_uniques strands vs

-- The assumptions that a problem states itself.
abbrev pub own_assumptions : List Declaration → List SkeletonStrand → List Form → Assumptions
own_assumptions ds strands body = record {
  non_originating = atoms_onto [] (atoms_in ds (forms_under is_non_item body));
  penetrator_non_originating = atoms_onto [] (atoms_in ds (forms_under is_penetrator_non_item body));
  uniquely_originating = uniques_onto [] (own_uniques strands (atoms_in ds (forms_under is_unique_item body)));
}

abbrev pub own_skeleton : List Declaration → List SkeletonStrand → List Form → List Declaration → Skeleton
own_skeleton ds strands body variables = record {
  variables = variables;
  strands = strands;
  pairs = pairs_in (forms_under is_precedes_item body);
  assumptions = with_given strands (own_assumptions ds strands body);
  from_problem = record {
    strands = numbers_from 0 strands;
    values = variable_terms 0 variables;
    assumptions = own_assumptions ds strands body;
    pairs = pairs_in (forms_under is_precedes_item body);
  };
}

-- A problem: its protocol, its variables, of which the first are declared and the others are made for role
-- variables without a maplet, and its skeleton.
pub record Problem : Type 0 where
  pub protocol : Protocol
  pub variables : List Declaration
  pub declared : ℕ
  pub skeleton : Skeleton

abbrev pub protocol_or_none : Option Protocol → Protocol
protocol_or_none None = record { name = []; roles = [] }
protocol_or_none (Some p) = p

abbrev pub problem_with : Protocol → List Declaration → List Form → Strands → Problem
problem_with protocol ds body s = record {
  protocol = protocol;
  variables = ds ++ s.fresh;
  declared = length ds;
  skeleton = own_skeleton ds s.strands body (ds ++ s.fresh);
}

abbrev pub problem_of : List Protocol → List Form → Problem
problem_of above (name ∷ vars ∷ body) =
    let protocol = protocol_or_none (protocol_named above (text_of_symbol name)) in
    problem_with protocol (declarations_of vars) body (problem_strands protocol.roles (declarations_of vars) body)
problem_of above _ = problem_with (protocol_or_none None) [] [] (record { strands = []; fresh = [] })
