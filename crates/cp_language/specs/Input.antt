-- Input: the faults of a list of forms, and what one that has none states.
use Rattle.std.specs.Prelude.{ℕ, List, [], ◌∷◌, ◌++◌, Option, Some, None}
use Rattle.cp_base.specs.declared.place.Place.{Place}
use Rattle.cp_base.specs.declared.place.Code.TheVariants.{UnknownForm, OutOfProfile, BadShape}
use Rattle.cp_base.specs.declared.place.Refusal.{Refusal}
use Rattle.cp_model.specs.Strand.{Protocol}
use Rattle.cp_sexpr.specs.Syntax.{Form, Forms}
use Rattle.cp_language.specs.declared.words.TopHead.{TopHead}
use Rattle.cp_language.specs.declared.words.TopHead.TheVariants.{Protocol as protocol_form, Problem as problem_form, Free as free_form, OutOfProfile as top_out_of_profile, Unknown as no_top}
use Rattle.cp_language.specs.Words.{top_head}
use Rattle.cp_language.specs.Faults.{fault, place_of, items_of}
use Rattle.cp_language.specs.Roles.{Headed, headed, protocol_faults, protocol_of}
use Rattle.cp_language.specs.Problems.{Problem, problem_faults, problem_of}

abbrev pub protocol_names : List Protocol → List (List ℕ)
protocol_names [] = []
protocol_names (p ∷ ps) = p.name ∷ protocol_names ps

-- ---- faults

abbrev pub top_faults : List Protocol → Place → TopHead → List Form → List Refusal
top_faults above at protocol_form fs = protocol_faults (protocol_names above) at fs
top_faults above at problem_form fs = problem_faults above at fs
top_faults above at free_form fs = []
top_faults above at top_out_of_profile fs = fault at OutOfProfile
top_faults above at no_top fs = fault at UnknownForm

abbrev pub headed_top_faults : List Protocol → Place → Option Headed → List Refusal
headed_top_faults above at None = fault at BadShape
headed_top_faults above at (Some h) = top_faults above at (top_head h.head) h.items

-- The protocols that stand above the forms behind this one, the last first.
abbrev pub protocols_onto : TopHead → List Form → List Protocol → List Protocol
protocols_onto protocol_form fs above = protocol_of fs ∷ above
protocols_onto _ fs above = above

abbrev pub protocols_behind : Option Headed → List Protocol → List Protocol
protocols_behind None above = above
protocols_behind (Some h) above = protocols_onto (top_head h.head) h.items above

abbrev pub faults_from : List Protocol → List Form → List Refusal
faults_from above [] = []
faults_from above (f ∷ fs) = headed_top_faults above (place_of f) (headed f) ++ faults_from (protocols_behind (headed f) above) fs

-- All faults of a list of forms.
abbrev pub faults_of : Forms → List Refusal
faults_of fs = faults_from [] (items_of fs)

-- ---- what it states

-- A form of the input: one that states nothing, one that states a protocol, or one that states a problem.
pub data Entry : Type 0 where
  plain_entry : Form → Entry
  protocol_entry : Form → Protocol → Entry
  problem_entry : Form → Problem → Entry

abbrev pub form_of : Entry → Form
form_of (plain_entry f) = f
form_of (protocol_entry f p) = f
form_of (problem_entry f p) = f

-- The protocol that it states, if it states one.
abbrev pub stated_protocol : Entry → Option Protocol
stated_protocol (plain_entry f) = None
stated_protocol (protocol_entry f p) = Some p
stated_protocol (problem_entry f p) = None

-- The problem that it states, if it states one.
abbrev pub stated : Entry → Option Problem
stated (plain_entry f) = None
stated (protocol_entry f p) = None
stated (problem_entry f p) = Some p

-- The entry of a form with this head and these items behind it, below these protocols.
abbrev pub entry_of_head : List Protocol → TopHead → List Form → Form → Entry
entry_of_head above protocol_form fs f = protocol_entry f (protocol_of fs)
entry_of_head above problem_form fs f = problem_entry f (problem_of above fs)
entry_of_head above _ fs f = plain_entry f

abbrev pub headed_entry : List Protocol → Option Headed → Form → Entry
headed_entry above None f = plain_entry f
headed_entry above (Some h) f = entry_of_head above (top_head h.head) h.items f

-- The problem that the form states, below these protocols, if it states one.
abbrev pub stated_problem : List Protocol → Form → Option Problem
stated_problem above f = stated (headed_entry above (headed f) f)

abbrev pub entries_from : List Protocol → List Form → List Entry
entries_from above [] = []
entries_from above (f ∷ fs) = headed_entry above (headed f) f ∷ entries_from (protocols_behind (headed f) above) fs

-- The forms of the input in order, each with what it states.
abbrev pub input_of : Forms → List Entry
input_of fs = entries_from [] (items_of fs)
