-- The roles of a protocol without faults: their variables are declared once, and their events and assumptions are over
-- them; their unique values originate in their traces.
use Rattle.std.proofs.Common.{◌≡◌, ℕ, List, [], ◌∷◌, Bool, true, false, Option, Some, None, refl, sym, subst, if◌then◌else◌}
use Rattle.cp_base.specs.declared.place.Place.{Place}
use Rattle.cp_base.specs.declared.place.Refusal.{Refusal}
use Rattle.cp_base.specs.declared.place.Code.TheVariants.{DuplicateProtocol, DuplicateRole}
use Rattle.cp_lists.specs.Lists.{IsIn, here, there}
use Rattle.cp_model.specs.Term.{Term, variables_of}
use Rattle.cp_model.specs.Strand.{payload, Role, variables_of_trace, variables_of_prefix}
use Rattle.cp_model.specs.declared.strand.Event.{Event}
use Rattle.cp_model.specs.declared.strand.Event.TheVariants.{Send as send, Receive as recv}
use Rattle.cp_model.specs.declared.variable.Declaration.{Declaration}
use Rattle.cp_model.proofs.LawPrefixes.{in_front_of_trace}
use Rattle.cp_lists.proofs.Appended.{none_before, none_behind, none_of_three, none_of_four}
use Rattle.cp_sexpr.specs.Syntax.{Form}
use Rattle.cp_language.specs.declared.words.ItemHead.{ItemHead}
use Rattle.cp_language.specs.declared.words.ItemHead.TheVariants.{Role as role_item, Non as non_item, PenetratorNon as penetrator_non_item, Unique as unique_item, Strand as strand_item, Listener as listener_item, Precedes as precedes_item, Comment as comment_item, OutOfProfile as item_out_of_profile, Unknown as no_item}
use Rattle.cp_language.specs.Words.{event_head, item_head}
use Rattle.cp_language.specs.Faults.{fault, place_of}
use Rattle.cp_language.specs.Terms.{term_faults, atom_faults, term_of}
use Rattle.cp_language.specs.Roles.{Headed, headed, items_behind, vars_faults, declarations_of, trace_faults, where_faultless, message_of, is_sending, event_of, events_in, events_stated, role_unique_faults, each_faults, role_item_faults, headed_item_faults, item_faults, name_faults_at, role_faults, item_or_none, forms_under, is_non_item, is_penetrator_non_item, is_unique_item, is_role_item, role_of, roles_faults, algebra_faults, protocol_faults, roles_in, protocol_of}
use Rattle.cp_language.proofs.Terms.{AreDeclared, none_declared, both_declared, term_variables_declared}
use Rattle.cp_language.proofs.Items.{under_one}
use Rattle.cp_language.proofs.Values.{AtomsDeclared, stated_declared, Originate, uniques_originate}
use Rattle.cp_language.proofs.Names.{AreDistinct, variables_distinct}
use Rattle.cp_language.proofs.EachRole.{of_roles}
use Rattle.cp_language.proofs.OwnNames.{HaveOwnNames, roles_named}

-- A role of well-formed input, in the words of these proofs.
pub record IsSoundRole (r : Role) : Type 0 where
  pub distinct : AreDistinct [] r.variables
  pub declared : AreDeclared r.variables (variables_of_trace r.trace)
  pub non : AtomsDeclared r.variables r.non_originating
  pub penetrator_non : AtomsDeclared r.variables r.penetrator_non_originating
  pub unique : Originate r.trace r.uniquely_originating

abbrev pub AreSoundRoles : List Role → Type 0
AreSoundRoles rs = (r : Role) → IsIn r rs → IsSoundRole r

-- ---- events

-- a term that is none where it has faults
faultless_declared : (ds : List Declaration) (rs : List Refusal) (t : Term) → (rs ≡ [] → AreDeclared ds (variables_of t)) → AreDeclared ds (variables_of (where_faultless rs t))
faultless_declared ds [] t h = h refl
faultless_declared ds (r ∷ rs) t h = none_declared ds

message_declared : (ds : List Declaration) (fs : List Form) → AreDeclared ds (variables_of (message_of ds fs))
message_declared ds [] = none_declared ds
message_declared ds (f ∷ fs) = faultless_declared ds (term_faults ds f) (term_of ds f) (term_variables_declared ds f)

either_payload : (b : Bool) (t : Term) → payload (if b then send t else recv t) ≡ t
either_payload true t = refl
either_payload false t = refl

event_declared : (ds : List Declaration) (o : Option Headed) → AreDeclared ds (variables_of (payload (event_of ds o)))
event_declared ds None = none_declared ds
event_declared ds (Some h) =
    subst (λ (t : Term). AreDeclared ds (variables_of t)) (sym (either_payload (is_sending (event_head h.head)) (message_of ds h.items))) (message_declared ds h.items)

events_declared : (ds : List Declaration) (fs : List Form) → AreDeclared ds (variables_of_trace (events_in ds fs))
events_declared ds [] = none_declared ds
events_declared ds (f ∷ fs) =
    both_declared ds (variables_of (payload (event_of ds (headed f)))) (variables_of_trace (events_in ds fs)) (event_declared ds (headed f)) (events_declared ds fs)

-- The variables of the events of a trace are declared, whatever faults there are; and so are those of a role, and of roles.
pub trace_declared : (ds : List Declaration) (f : Form) → AreDeclared ds (variables_of_trace (events_stated ds f))
trace_declared ds f = events_declared ds (items_behind (headed f))

pub role_declares : (fs : List Form) → AreDeclared (role_of fs).variables (variables_of_trace (role_of fs).trace)
role_declares (name ∷ vars ∷ trace ∷ items) = trace_declared (declarations_of vars) trace
role_declares (name ∷ vars ∷ []) = none_declared []
role_declares (name ∷ []) = none_declared []
role_declares [] = none_declared []

-- All of these roles declare the variables of their events.
abbrev pub AllDeclare : List Role → Type 0
AllDeclare rs = (r : Role) → IsIn r rs → AreDeclared r.variables (variables_of_trace r.trace)

first_declares : (r : Role) (rs : List Role) → AreDeclared r.variables (variables_of_trace r.trace) → AllDeclare rs → AllDeclare (r ∷ rs)
first_declares r rs h hs s here = h
first_declares r rs h hs s (there p) = hs s p

with_role_declare : (b : Bool) (r : Role) (rs : List Role) → AreDeclared r.variables (variables_of_trace r.trace) → AllDeclare rs → AllDeclare (if b then r ∷ rs else rs)
with_role_declare true r rs h hs = first_declares r rs h hs
with_role_declare false r rs h hs = hs

pub roles_declare : (fs : List Form) → AllDeclare (roles_in fs)
roles_declare [] = λ r p. elim p [ ]
roles_declare (f ∷ fs) = with_role_declare (is_role_item (item_or_none (headed f))) (role_of (items_behind (headed f))) (roles_in fs) (role_declares (items_behind (headed f))) (roles_declare fs)

pub protocol_declares : (fs : List Form) → AllDeclare (protocol_of fs).roles
protocol_declares (name ∷ algebra ∷ items) = roles_declare items
protocol_declares (name ∷ []) = λ r p. elim p [ ]
protocol_declares [] = λ r p. elim p [ ]

pub prefix_declared : (r : Role) (height : ℕ) → IsSoundRole r → AreDeclared r.variables (variables_of_prefix r height)
prefix_declared r height h x p = h.declared x (in_front_of_trace height r.trace x p)

-- ---- items

module _ (ds : List Declaration) (trace : List (Event Term)) where
  -- what an item of this head says
  record SaysItem (k : ItemHead) (fs : List Form) : Type 0 where
    non : (if is_non_item k then each_faults (atom_faults ds) fs else []) ≡ []
    penetrator_non : (if is_penetrator_non_item k then each_faults (atom_faults ds) fs else []) ≡ []
    unique : (if is_unique_item k then each_faults (role_unique_faults ds trace) fs else []) ≡ []

  by_head : (at : Place) (k : ItemHead) (fs : List Form) → role_item_faults ds trace at k fs ≡ [] → SaysItem k fs
  by_head at non_item fs e = record { non = e; penetrator_non = refl; unique = refl }
  by_head at penetrator_non_item fs e = record { non = refl; penetrator_non = e; unique = refl }
  by_head at unique_item fs e = record { non = refl; penetrator_non = refl; unique = e }
  by_head at comment_item fs e = record { non = refl; penetrator_non = refl; unique = refl }
  by_head at item_out_of_profile fs e = absurd (cc)
  by_head at role_item fs e = absurd (cc)
  by_head at strand_item fs e = absurd (cc)
  by_head at listener_item fs e = absurd (cc)
  by_head at precedes_item fs e = absurd (cc)
  by_head at no_item fs e = absurd (cc)

  says_item : (at : Place) (o : Option Headed) → headed_item_faults (role_item_faults ds trace) at o ≡ [] → SaysItem (item_or_none o) (items_behind o)
  says_item at None e = absurd (cc)
  says_item at (Some h) e = by_head at (item_head h.head) h.items e

  record SaysItems (items : List Form) : Type 0 where
    non : each_faults (atom_faults ds) (forms_under is_non_item items) ≡ []
    penetrator_non : each_faults (atom_faults ds) (forms_under is_penetrator_non_item items) ≡ []
    unique : each_faults (role_unique_faults ds trace) (forms_under is_unique_item items) ≡ []

  says_items : (items : List Form) → each_faults (item_faults (role_item_faults ds trace)) items ≡ [] → SaysItems items
  says_items [] e = record { non = refl; penetrator_non = refl; unique = refl }
  says_items (f ∷ fs) e =
      let k = item_or_none (headed f) in
      let items = items_behind (headed f) in
      let faults = item_faults (role_item_faults ds trace) in
      let h = says_item (place_of f) (headed f) (none_before (faults f) (each_faults faults fs) e) in
      let hs = says_items fs (none_behind (faults f) (each_faults faults fs) e) in
      record {
        non = under_one (is_non_item k) (atom_faults ds) items (forms_under is_non_item fs) h.non hs.non;
        penetrator_non = under_one (is_penetrator_non_item k) (atom_faults ds) items (forms_under is_penetrator_non_item fs) h.penetrator_non hs.penetrator_non;
        unique = under_one (is_unique_item k) (role_unique_faults ds trace) items (forms_under is_unique_item fs) h.unique hs.unique;
      }

-- ---- roles

role_body_sound : (before : List (List ℕ)) (at : Place) (fs : List Form) → role_faults before at fs ≡ [] → IsSoundRole (role_of fs)
role_body_sound before at (name ∷ vars ∷ trace ∷ items) e =
    let ds = declarations_of vars in
    let p = none_of_four (name_faults_at before (λ p. fault p DuplicateRole) name) (vars_faults vars) (trace_faults ds trace) (each_faults (item_faults (role_item_faults ds (events_stated ds trace))) items) e in
    let h = says_items ds (events_stated ds trace) items p.3 in
    record {
      distinct = variables_distinct vars p.1;
      declared = role_declares (name ∷ vars ∷ trace ∷ items);
      non = stated_declared ds (forms_under is_non_item items) h.non;
      penetrator_non = stated_declared ds (forms_under is_penetrator_non_item items) h.penetrator_non;
      unique = uniques_originate ds (events_stated ds trace) (forms_under is_unique_item items) h.unique;
    }
role_body_sound before at (name ∷ vars ∷ []) e = absurd (cc)
role_body_sound before at (name ∷ []) e = absurd (cc)
role_body_sound before at [] e = absurd (cc)

one_more : (r : Role) (rs : List Role) → IsSoundRole r → AreSoundRoles rs → AreSoundRoles (r ∷ rs)
one_more r rs h hs s here = h
one_more r rs h hs s (there p) = hs s p

roles_sound : (before : List (List ℕ)) (fs : List Form) → roles_faults before fs ≡ [] → AreSoundRoles (roles_in fs)
roles_sound before fs e =
    of_roles (λ forms. Unit {0}) (λ names rs. AreSoundRoles rs) (λ names r p. elim p [ ]) (λ names at forms rs g q hs. one_more (role_of forms) rs (role_body_sound names at forms q) hs) before fs (λ f i. tt) e

-- The roles of a protocol without faults are sound, and have names of their own.
pub protocol_sound : (names : List (List ℕ)) (at : Place) (fs : List Form) → protocol_faults names at fs ≡ [] → AreSoundRoles (protocol_of fs).roles × HaveOwnNames [] (protocol_of fs).roles
protocol_sound names at (name ∷ algebra ∷ items) e =
    let r = (none_of_three (name_faults_at names (λ p. fault p DuplicateProtocol) name) (algebra_faults algebra) (roles_faults [] items) e).2 in
    (roles_sound [] items r, roles_named [] items r)
protocol_sound names at (name ∷ []) e = absurd (cc)
protocol_sound names at [] e = absurd (cc)
