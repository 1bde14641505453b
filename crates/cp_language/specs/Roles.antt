-- Declarations, events, roles and protocols of the input: their faults, and what they stand for.
use Rattle.std.specs.Prelude.{ℕ, List, [], ◌∷◌, ◌++◌, Bool, true, false, if◌then◌else◌, Option, Some, None, codes}
use Rattle.cp_base.specs.declared.place.Place.{Place}
use Rattle.cp_base.specs.declared.place.Code.TheVariants.{UnknownForm, OutOfProfile, BadShape, DuplicateProtocol, DuplicateRole, UnknownSort, MesgVar, DuplicateVar, RoleUniqNoOrigin}
use Rattle.cp_base.specs.declared.place.Refusal.{Refusal}
use Rattle.cp_model.specs.Term.{AtomTerm, Term, tag_term}
use Rattle.cp_model.specs.declared.sort.Sort.{Sort}
use Rattle.cp_model.specs.declared.sort.Sort.TheVariants.{Text as text_sort}
use Rattle.cp_model.specs.Strand.{Role, Protocol}
use Rattle.cp_model.specs.declared.strand.Event.{Event}
use Rattle.cp_model.specs.declared.strand.Event.TheVariants.{Send as send, Receive as recv}
use Rattle.cp_model.specs.declared.variable.Declaration.{Declaration}
use Rattle.cp_sexpr.specs.Syntax.{Form, symbol, list, more}
use Rattle.cp_model.specs.Same.{same_text, origin_in}
use Rattle.cp_language.specs.declared.words.SortWord.{SortWord}
use Rattle.cp_language.specs.declared.words.SortWord.TheVariants.{Atoms as of_sort, Messages as of_messages, OutOfProfile as sort_out_of_profile, Unknown as no_sort}
use Rattle.cp_language.specs.declared.words.EventHead.{EventHead}
use Rattle.cp_language.specs.declared.words.EventHead.TheVariants.{Send as sending, Recv as receiving, OutOfProfile as event_out_of_profile, Unknown as no_event}
use Rattle.cp_language.specs.declared.words.ItemHead.{ItemHead}
use Rattle.cp_language.specs.declared.words.ItemHead.TheVariants.{Role as role_item, Non as non_item, PenetratorNon as penetrator_non_item, Unique as unique_item, Strand as strand_item, Listener as listener_item, Precedes as precedes_item, Comment as comment_item, OutOfProfile as item_out_of_profile, Unknown as no_item}
use Rattle.cp_language.specs.Words.{is_one_of, heads_out_of_profile, sort_word, event_head, item_head}
use Rattle.cp_language.specs.Faults.{fault, fault_unless, place_of, items_of}
use Rattle.cp_language.specs.Terms.{lacks, term_faults, atom_faults, term_of, as_atom}

-- ---- lists with a head

-- A list by its head: its place, the head, and the items behind it.
pub record Headed : Type 0 where
  pub at : Place
  pub head : List ℕ
  pub items : List Form

-- A form that is a list with a symbol for its head.
abbrev pub headed : Form → Option Headed
headed (list at (more (symbol p t) fs)) = Some (record { at = at; head = t; items = items_of fs })
headed _ = None

abbrev pub text_of_symbol : Form → List ℕ
text_of_symbol (symbol at t) = t
text_of_symbol _ = []

-- At a fixed place a list with this head has to stand: the faults of its items, or of what stands there.
abbrev pub fixed_head_faults : List ℕ → Place → (Place → List Form → List Refusal) → Option Headed → List Refusal
fixed_head_faults word at inside None = fault at BadShape
fixed_head_faults word at inside (Some h) =
    if same_text h.head word then inside at h.items else
    if is_one_of h.head heads_out_of_profile then fault at OutOfProfile else fault at BadShape

abbrev pub fixed_faults : List ℕ → (Place → List Form → List Refusal) → Form → List Refusal
fixed_faults word inside f = fixed_head_faults word (place_of f) inside (headed f)

abbrev pub items_behind : Option Headed → List Form
items_behind None = []
items_behind (Some h) = h.items

-- ---- declarations

abbrev pub front_of : List Form → List Form
front_of [] = []
front_of (f ∷ []) = []
front_of (f ∷ g ∷ fs) = f ∷ front_of (g ∷ fs)

abbrev pub last_form : List Form → Option Form
last_form [] = None
last_form (f ∷ []) = Some f
last_form (f ∷ g ∷ fs) = last_form (g ∷ fs)

abbrev pub sort_named : Option Form → SortWord
sort_named (Some (symbol at t)) = sort_word t
sort_named _ = no_sort

abbrev pub is_of_messages : SortWord → Bool
is_of_messages of_messages = true
is_of_messages _ = false

abbrev pub sort_or_text : SortWord → Sort
sort_or_text (of_sort s) = s
sort_or_text _ = text_sort

abbrev pub sort_word_faults : Place → SortWord → List Refusal
sort_word_faults at (of_sort s) = []
sort_word_faults at of_messages = []
sort_word_faults at sort_out_of_profile = fault at OutOfProfile
sort_word_faults at no_sort = fault at UnknownSort

abbrev pub last_sort_faults : Option Form → List Refusal
last_sort_faults None = []
last_sort_faults (Some (symbol at t)) = sort_word_faults at (sort_word t)
last_sort_faults (Some f) = fault (place_of f) BadShape

-- An identifier that is declared: a symbol, no variable of all messages, and not declared before.
abbrev pub identifier_faults : List (List ℕ) → SortWord → Form → List Refusal
identifier_faults before sort (symbol at t) =
    (if is_of_messages sort then fault at MesgVar else []) ++ (if is_one_of t before then fault at DuplicateVar else [])
identifier_faults before sort f = fault (place_of f) BadShape

abbrev pub identifiers_faults : List (List ℕ) → SortWord → List Form → List Refusal
identifiers_faults before sort [] = []
identifiers_faults before sort (f ∷ fs) = identifier_faults before sort f ++ identifiers_faults (text_of_symbol f ∷ before) sort fs

abbrev pub declared_identifiers : List Form → List (List ℕ)
declared_identifiers [] = []
declared_identifiers (f ∷ fs) = text_of_symbol f ∷ declared_identifiers fs

abbrev pub list_items : Form → List Form
list_items (list at fs) = items_of fs
list_items _ = []

-- One declaration: identifiers, at least one, and their sort.
abbrev pub declaration_faults : List (List ℕ) → Form → List Refusal
declaration_faults before (list at fs) =
    lacks 2 at (items_of fs) ++ identifiers_faults before (sort_named (last_form (items_of fs))) (front_of (items_of fs)) ++ last_sort_faults (last_form (items_of fs))
declaration_faults before f = fault (place_of f) BadShape

abbrev pub declarations_faults : List (List ℕ) → List Form → List Refusal
declarations_faults before [] = []
declarations_faults before (f ∷ fs) = declaration_faults before f ++ declarations_faults (declared_identifiers (front_of (list_items f)) ++ before) fs

abbrev pub vars_faults : Form → List Refusal
vars_faults f = fixed_faults (codes "vars") (λ at ds. declarations_faults [] ds) f

abbrev pub declared_of : Sort → List Form → List Declaration
declared_of s [] = []
declared_of s (f ∷ fs) = record { identifier = text_of_symbol f; sort = s } ∷ declared_of s fs

abbrev pub declarations_in : List Form → List Declaration
declarations_in [] = []
declarations_in (f ∷ fs) = declared_of (sort_or_text (sort_named (last_form (list_items f)))) (front_of (list_items f)) ++ declarations_in fs

-- The variables that a `vars` list declares, in order.
abbrev pub declarations_of : Form → List Declaration
declarations_of f = declarations_in (items_behind (headed f))

-- ---- events

-- A transmission or a reception has one message; with two it is on a channel.
abbrev pub message_faults : List Declaration → Place → List Form → List Refusal
message_faults ds at [] = fault at BadShape
message_faults ds at (f ∷ []) = term_faults ds f
message_faults ds at (f ∷ g ∷ []) = fault at OutOfProfile
message_faults ds at (f ∷ g ∷ h ∷ fs) = term_faults ds f ++ term_faults ds g ++ fault (place_of h) BadShape

abbrev pub event_head_faults : List Declaration → Place → EventHead → List Form → List Refusal
event_head_faults ds at sending fs = message_faults ds at fs
event_head_faults ds at receiving fs = message_faults ds at fs
event_head_faults ds at event_out_of_profile fs = fault at OutOfProfile
event_head_faults ds at no_event fs = fault at UnknownForm

abbrev pub headed_event_faults : List Declaration → Place → Option Headed → List Refusal
headed_event_faults ds at None = fault at BadShape
headed_event_faults ds at (Some h) = event_head_faults ds at (event_head h.head) h.items

abbrev pub event_faults : List Declaration → Form → List Refusal
event_faults ds f = headed_event_faults ds (place_of f) (headed f)

abbrev pub events_faults : List Declaration → List Form → List Refusal
events_faults ds [] = []
events_faults ds (f ∷ fs) = event_faults ds f ++ events_faults ds fs

abbrev pub trace_faults : List Declaration → Form → List Refusal
trace_faults ds f = fixed_faults (codes "trace") (λ at es. lacks 1 at es ++ events_faults ds es) f

-- A term that has these faults; with any it is none, so that the events of a role have no other variables than the role.
abbrev pub where_faultless : List Refusal → Term → Term
where_faultless [] t = t
where_faultless (r ∷ rs) t = tag_term []

abbrev pub message_of : List Declaration → List Form → Term
message_of ds [] = tag_term []
message_of ds (f ∷ fs) = where_faultless (term_faults ds f) (term_of ds f)

abbrev pub is_sending : EventHead → Bool
is_sending sending = true
is_sending _ = false

abbrev pub event_of : List Declaration → Option Headed → Event Term
event_of ds None = send (tag_term [])
event_of ds (Some h) = if is_sending (event_head h.head) then send (message_of ds h.items) else recv (message_of ds h.items)

abbrev pub events_in : List Declaration → List Form → List (Event Term)
events_in ds [] = []
events_in ds (f ∷ fs) = event_of ds (headed f) ∷ events_in ds fs

abbrev pub events_stated : List Declaration → Form → List (Event Term)
events_stated ds f = events_in ds (items_behind (headed f))

-- ---- roles

abbrev pub is_somewhere : Option ℕ → Bool
is_somewhere None = false
is_somewhere (Some i) = true

-- Of a role's unique value: where it has no other fault, it originates somewhere in the role's trace.
abbrev pub unless_faulty : List Refusal → List Refusal → List Refusal
unless_faulty [] others = others
unless_faulty (r ∷ rs) others = r ∷ rs

abbrev pub role_unique_faults : List Declaration → List (Event Term) → Form → List Refusal
role_unique_faults ds trace f = unless_faulty (atom_faults ds f) (fault_unless (is_somewhere (origin_in trace (term_of ds f))) (place_of f) RoleUniqNoOrigin)

abbrev pub each_faults : (Form → List Refusal) → List Form → List Refusal
each_faults faults [] = []
each_faults faults (f ∷ fs) = faults f ++ each_faults faults fs

abbrev pub role_item_faults : List Declaration → List (Event Term) → Place → ItemHead → List Form → List Refusal
role_item_faults ds trace at non_item fs = each_faults (atom_faults ds) fs
role_item_faults ds trace at penetrator_non_item fs = each_faults (atom_faults ds) fs
role_item_faults ds trace at unique_item fs = each_faults (role_unique_faults ds trace) fs
role_item_faults ds trace at comment_item fs = []
role_item_faults ds trace at item_out_of_profile fs = fault at OutOfProfile
role_item_faults ds trace at role_item fs = fault at UnknownForm
role_item_faults ds trace at strand_item fs = fault at UnknownForm
role_item_faults ds trace at listener_item fs = fault at UnknownForm
role_item_faults ds trace at precedes_item fs = fault at UnknownForm
role_item_faults ds trace at no_item fs = fault at UnknownForm

-- The faults of an item that is judged by its head.
abbrev pub headed_item_faults : (Place → ItemHead → List Form → List Refusal) → Place → Option Headed → List Refusal
headed_item_faults faults at None = fault at BadShape
headed_item_faults faults at (Some h) = faults at (item_head h.head) h.items

abbrev pub item_faults : (Place → ItemHead → List Form → List Refusal) → Form → List Refusal
item_faults faults f = headed_item_faults faults (place_of f) (headed f)

-- A name: a symbol that is none of these.
abbrev pub name_faults_at : List (List ℕ) → (Place → List Refusal) → Form → List Refusal
name_faults_at before duplicate (symbol at t) = if is_one_of t before then duplicate at else []
name_faults_at before duplicate f = fault (place_of f) BadShape

-- A role, behind its head: a name, its variables, its trace, and items.
abbrev pub role_faults : List (List ℕ) → Place → List Form → List Refusal
role_faults before at (name ∷ vars ∷ trace ∷ items) =
    name_faults_at before (λ p. fault p DuplicateRole) name ++ vars_faults vars ++ trace_faults (declarations_of vars) trace
    ++ each_faults (item_faults (role_item_faults (declarations_of vars) (events_stated (declarations_of vars) trace))) items
role_faults before at _ = fault at BadShape

abbrev pub atoms_in : List Declaration → List Form → List AtomTerm
atoms_in ds [] = []
atoms_in ds (f ∷ fs) = as_atom (term_of ds f) ∷ atoms_in ds fs

-- The forms behind the heads of this kind, in order.
abbrev pub item_or_none : Option Headed → ItemHead
item_or_none None = no_item
item_or_none (Some h) = item_head h.head

abbrev pub forms_under : (ItemHead → Bool) → List Form → List Form
forms_under test [] = []
forms_under test (f ∷ fs) = if test (item_or_none (headed f)) then items_behind (headed f) ++ forms_under test fs else forms_under test fs

abbrev pub is_non_item : ItemHead → Bool
is_non_item non_item = true
is_non_item _ = false

abbrev pub is_penetrator_non_item : ItemHead → Bool
is_penetrator_non_item penetrator_non_item = true
is_penetrator_non_item _ = false

abbrev pub is_unique_item : ItemHead → Bool
is_unique_item unique_item = true
is_unique_item _ = false

abbrev pub role_of : List Form → Role
role_of (name ∷ vars ∷ trace ∷ items) =
    let ds = declarations_of vars in record {
      name = text_of_symbol name;
      variables = ds;
      trace = events_stated ds trace;
      non_originating = atoms_in ds (forms_under is_non_item items);
      penetrator_non_originating = atoms_in ds (forms_under is_penetrator_non_item items);
      uniquely_originating = atoms_in ds (forms_under is_unique_item items);
    }
role_of _ = record { name = []; variables = []; trace = []; non_originating = []; penetrator_non_originating = []; uniquely_originating = [] }

-- ---- protocols

abbrev pub is_role_item : ItemHead → Bool
is_role_item role_item = true
is_role_item _ = false

abbrev pub protocol_item_faults : List (List ℕ) → Place → ItemHead → List Form → List Refusal
protocol_item_faults before at role_item fs = role_faults before at fs
protocol_item_faults before at comment_item fs = []
protocol_item_faults before at item_out_of_profile fs = fault at OutOfProfile
protocol_item_faults before at non_item fs = fault at UnknownForm
protocol_item_faults before at penetrator_non_item fs = fault at UnknownForm
protocol_item_faults before at unique_item fs = fault at UnknownForm
protocol_item_faults before at strand_item fs = fault at UnknownForm
protocol_item_faults before at listener_item fs = fault at UnknownForm
protocol_item_faults before at precedes_item fs = fault at UnknownForm
protocol_item_faults before at no_item fs = fault at UnknownForm

-- The name of a role that an item defines, if it does.
abbrev pub role_name_onto : Option Headed → List (List ℕ) → List (List ℕ)
role_name_onto None before = before
role_name_onto (Some h) before = if is_role_item (item_head h.head) then (role_of h.items).name ∷ before else before

abbrev pub roles_faults : List (List ℕ) → List Form → List Refusal
roles_faults before [] = []
roles_faults before (f ∷ fs) = item_faults (protocol_item_faults before) f ++ roles_faults (role_name_onto (headed f) before) fs

-- The algebra's name.
abbrev pub algebra_faults : Form → List Refusal
algebra_faults (symbol at t) = fault_unless (same_text t (codes "basic")) at OutOfProfile
algebra_faults f = fault (place_of f) BadShape

-- A protocol, behind its head: a name, the algebra, and roles.
abbrev pub protocol_faults : List (List ℕ) → Place → List Form → List Refusal
protocol_faults before at (name ∷ algebra ∷ items) = name_faults_at before (λ p. fault p DuplicateProtocol) name ++ algebra_faults algebra ++ roles_faults [] items
protocol_faults before at _ = fault at BadShape

abbrev pub roles_in : List Form → List Role
roles_in [] = []
roles_in (f ∷ fs) = if is_role_item (item_or_none (headed f)) then role_of (items_behind (headed f)) ∷ roles_in fs else roles_in fs

abbrev pub protocol_of : List Form → Protocol
protocol_of (name ∷ algebra ∷ items) = record { name = text_of_symbol name; roles = roles_in items }
protocol_of _ = record { name = []; roles = [] }
