-- The strings and identifiers of roles that proper forms state without faults are proper.
use Rattle.std.proofs.Common.{◌≡◌, ℕ, List, [], ◌∷◌, ◌++◌, Bool, true, false, Option, Some, None, if◌then◌else◌, codes}
use Rattle.cp_base.specs.declared.place.Place.{Place}
use Rattle.cp_base.specs.declared.place.Code.TheVariants.{DuplicateProtocol, DuplicateRole}
use Rattle.cp_base.specs.declared.place.Refusal.{Refusal}
use Rattle.cp_lists.specs.Lists.{IsIn, here, there}
use Rattle.cp_lists.proofs.Appended.{none_before, none_behind, none_of_three, none_of_four}
use Rattle.cp_model.specs.Term.{Term}
use Rattle.cp_model.specs.declared.sort.Sort.{Sort}
use Rattle.cp_model.specs.Strand.{payload, Role}
use Rattle.cp_model.specs.declared.strand.Event.{Event}
use Rattle.cp_model.specs.declared.strand.Event.TheVariants.{Send as send, Receive as recv}
use Rattle.cp_model.specs.declared.variable.Declaration.{Declaration}
use Rattle.cp_sexpr.specs.Syntax.{Form, symbol, string, number, list, Forms, none, more}
use Rattle.cp_language.specs.declared.words.SortWord.{SortWord}
use Rattle.cp_language.specs.declared.words.ItemHead.{ItemHead}
use Rattle.cp_language.specs.Words.{event_head}
use Rattle.cp_language.specs.Faults.{fault, place_of, items_of}
use Rattle.cp_language.specs.Terms.{term_faults, term_of, as_atom}
use Rattle.cp_language.specs.Roles.{Headed, headed, text_of_symbol, items_behind, front_of, last_form, sort_named, sort_or_text, identifier_faults, identifiers_faults, declared_identifiers, list_items, declaration_faults, declarations_faults, vars_faults, declared_of, declarations_in, declarations_of, trace_faults, where_faultless, message_of, is_sending, event_of, events_in, events_stated, each_faults, role_item_faults, item_faults, name_faults_at, role_faults, atoms_in, item_or_none, forms_under, is_non_item, is_penetrator_non_item, is_unique_item, role_of, roles_faults, algebra_faults, protocol_faults, roles_in, protocol_of}
use Rattle.cp_language.proofs.Names.{no_identifier_faults, inside_fixed}
use Rattle.cp_language.proofs.EachRole.{of_roles}
use Rattle.cp_printable.specs.Strings.{strings_of}
use Rattle.cp_printable.specs.Proper.{IsStringText, IsSymbolText, IsProper, AreProper}
use Rattle.cp_printable.specs.Spelled.{IsSpelledAtom, AreSpelledAtoms, AreSpelledDeclarations, IsSpelledRole}
use Rattle.cp_printable.proofs.SpelledTerms.{Each, each_of_none, each_more, each_of_both, AreStrings, empty_string, atom_strings, term_strings}

-- ---- proper forms in lists

-- Each of these forms is proper.
abbrev pub AllProper : List Form → Type 0
AllProper [] = Unit {0}
AllProper (f ∷ fs) = IsProper f × AllProper fs

pub items_proper : (fs : Forms) → AreProper fs → AllProper (items_of fs)
items_proper none h = tt
items_proper (more f fs) h = (h.0, items_proper fs h.1)

-- the items behind a head
pub behind_proper : (f : Form) → IsProper f → AllProper (items_behind (headed f))
behind_proper (symbol at t) h = tt
behind_proper (string at t) h = tt
behind_proper (number at n) h = tt
behind_proper (list at none) h = tt
behind_proper (list at (more (symbol p t) fs)) h = items_proper fs h.1
behind_proper (list at (more (string p t) fs)) h = tt
behind_proper (list at (more (number p n) fs)) h = tt
behind_proper (list at (more (list p gs) fs)) h = tt

each_behind_proper : (fs : List Form) → AllProper fs → (f : Form) → IsIn f fs → AllProper (items_behind (headed f))
each_behind_proper [] h f i = elim i [ ]
each_behind_proper (g ∷ fs) h f here = behind_proper f h.0
each_behind_proper (g ∷ fs) h f (there i) = each_behind_proper fs h.1 f i

pub inside_proper : (f : Form) → IsProper f → AllProper (list_items f)
inside_proper (list at fs) h = items_proper fs h
inside_proper (symbol at t) h = tt
inside_proper (string at t) h = tt
inside_proper (number at n) h = tt

front_proper : (fs : List Form) → AllProper fs → AllProper (front_of fs)
front_proper [] h = tt
front_proper (f ∷ []) h = tt
front_proper (f ∷ g ∷ fs) h = (h.0, front_proper (g ∷ fs) h.1)

both_proper : (fs gs : List Form) → AllProper fs → AllProper gs → AllProper (fs ++ gs)
both_proper [] gs h k = k
both_proper (f ∷ fs) gs h k = (h.0, both_proper fs gs h.1 k)

one_more_proper : (b : Bool) (fs gs : List Form) → AllProper fs → AllProper gs → AllProper (if b then fs ++ gs else gs)
one_more_proper true fs gs h k = both_proper fs gs h k
one_more_proper false fs gs h k = k

-- The forms behind the heads of one kind.
pub under_proper : (test : ItemHead → Bool) (fs : List Form) → AllProper fs → AllProper (forms_under test fs)
under_proper test [] h = tt
under_proper test (f ∷ fs) h = one_more_proper (test (item_or_none (headed f))) (items_behind (headed f)) (forms_under test fs) (behind_proper f h.0) (under_proper test fs h.1)

-- ---- declarations

-- an identifier that is declared without fault is a symbol
identifier_proper : (before : List (List ℕ)) (w : SortWord) (f : Form) → IsProper f → identifier_faults before w f ≡ [] → IsSymbolText (text_of_symbol f)
identifier_proper before w (symbol at t) h e = h
identifier_proper before w (string at t) h e = absurd (cc)
identifier_proper before w (number at n) h e = absurd (cc)
identifier_proper before w (list at fs) h e = absurd (cc)

identifiers_proper : (before : List (List ℕ)) (w : SortWord) (s : Sort) (fs : List Form) → AllProper fs → identifiers_faults before w fs ≡ [] → AreSpelledDeclarations IsSymbolText (declared_of s fs)
identifiers_proper before w s [] h e = each_of_none (λ (d : Declaration). IsSymbolText d.identifier)
identifiers_proper before w s (f ∷ fs) h e =
    each_more (λ (d : Declaration). IsSymbolText d.identifier) (record { identifier = text_of_symbol f; sort = s }) (declared_of s fs)
    (identifier_proper before w f h.0 (none_before (identifier_faults before w f) (identifiers_faults (text_of_symbol f ∷ before) w fs) e))
    (identifiers_proper (text_of_symbol f ∷ before) w s fs h.1 (none_behind (identifier_faults before w f) (identifiers_faults (text_of_symbol f ∷ before) w fs) e))

declarations_proper : (before : List (List ℕ)) (fs : List Form) → AllProper fs → declarations_faults before fs ≡ [] → AreSpelledDeclarations IsSymbolText (declarations_in fs)
declarations_proper before [] h e = each_of_none (λ (d : Declaration). IsSymbolText d.identifier)
declarations_proper before (f ∷ fs) h e =
    let w = sort_named (last_form (list_items f)) in
    let behind = declared_identifiers (front_of (list_items f)) ++ before in
    each_of_both (λ (d : Declaration). IsSymbolText d.identifier) (declared_of (sort_or_text w) (front_of (list_items f))) (declarations_in fs)
    (identifiers_proper before w (sort_or_text w) (front_of (list_items f)) (front_proper (list_items f) (inside_proper f h.0))
    (no_identifier_faults before f (none_before (declaration_faults before f) (declarations_faults behind fs) e)))
    (declarations_proper behind fs h.1 (none_behind (declaration_faults before f) (declarations_faults behind fs) e))

-- The identifiers that a list without faults declares are symbols.
pub variables_proper : (f : Form) → IsProper f → vars_faults f ≡ [] → AreSpelledDeclarations IsSymbolText (declarations_of f)
variables_proper f h e =
    declarations_proper [] (items_behind (headed f)) (behind_proper f h) (inside_fixed (codes "vars") (place_of f) (λ at ds. declarations_faults [] ds) (headed f) e)

-- ---- events

faultless_strings : (rs : List Refusal) (t : Term) → AreStrings (strings_of t) → AreStrings (strings_of (where_faultless rs t))
faultless_strings [] t h = h
faultless_strings (r ∷ rs) t h = empty_string

message_strings : (ds : List Declaration) (fs : List Form) → AllProper fs → AreStrings (strings_of (message_of ds fs))
message_strings ds [] h = empty_string
message_strings ds (f ∷ fs) h = faultless_strings (term_faults ds f) (term_of ds f) (term_strings ds f h.0)

either_payload : (b : Bool) (t : Term) → AreStrings (strings_of t) → AreStrings (strings_of (payload (if b then send t else recv t)))
either_payload true t h = h
either_payload false t h = h

event_strings : (ds : List Declaration) (o : Option Headed) → AllProper (items_behind o) → AreStrings (strings_of (payload (event_of ds o)))
event_strings ds None h = empty_string
event_strings ds (Some k) h = either_payload (is_sending (event_head k.head)) (message_of ds k.items) (message_strings ds k.items h)

events_strings : (ds : List Declaration) (fs : List Form) → AllProper fs → Each (λ (e : Event Term). AreStrings (strings_of (payload e))) (events_in ds fs)
events_strings ds [] h = each_of_none (λ (e : Event Term). AreStrings (strings_of (payload e)))
events_strings ds (f ∷ fs) h =
    each_more (λ (e : Event Term). AreStrings (strings_of (payload e))) (event_of ds (headed f)) (events_in ds fs)
    (event_strings ds (headed f) (behind_proper f h.0)) (events_strings ds fs h.1)

-- ---- assumptions

-- The values that proper forms state.
pub atoms_strings : (ds : List Declaration) (fs : List Form) → AllProper fs → AreSpelledAtoms IsStringText (atoms_in ds fs)
atoms_strings ds [] h = each_of_none (IsSpelledAtom IsStringText)
atoms_strings ds (f ∷ fs) h =
    each_more (IsSpelledAtom IsStringText) (as_atom (term_of ds f)) (atoms_in ds fs) (atom_strings (term_of ds f) (term_strings ds f h.0)) (atoms_strings ds fs h.1)

-- ---- roles

-- The strings and identifiers of all of these roles are proper.
abbrev pub AreSpelledRoles : List Role → Type 0
AreSpelledRoles rs = Each (IsSpelledRole IsStringText IsSymbolText) rs

-- a name without fault is a symbol
name_proper : (before : List (List ℕ)) (duplicate : Place → List Refusal) (f : Form) → IsProper f → name_faults_at before duplicate f ≡ [] → IsSymbolText (text_of_symbol f)
name_proper before duplicate (symbol at t) h e = h
name_proper before duplicate (string at t) h e = absurd (cc)
name_proper before duplicate (number at n) h e = absurd (cc)
name_proper before duplicate (list at fs) h e = absurd (cc)

role_spelled : (before : List (List ℕ)) (at : Place) (fs : List Form) → AllProper fs → role_faults before at fs ≡ [] → IsSpelledRole IsStringText IsSymbolText (role_of fs)
role_spelled before at (name ∷ vars ∷ trace ∷ items) h e =
    let ds = declarations_of vars in
    let p = none_of_four (name_faults_at before (λ q. fault q DuplicateRole) name) (vars_faults vars) (trace_faults ds trace) (each_faults (item_faults (role_item_faults ds (events_stated ds trace))) items) e in
    record {
      name = name_proper before (λ q. fault q DuplicateRole) name h.0 p.0;
      variables = variables_proper vars h.1.0 p.1;
      trace = events_strings ds (items_behind (headed trace)) (behind_proper trace h.1.1.0);
      non = atoms_strings ds (forms_under is_non_item items) (under_proper is_non_item items h.1.1.1);
      penetrator_non = atoms_strings ds (forms_under is_penetrator_non_item items) (under_proper is_penetrator_non_item items h.1.1.1);
      unique = atoms_strings ds (forms_under is_unique_item items) (under_proper is_unique_item items h.1.1.1);
    }
role_spelled before at (name ∷ vars ∷ []) h e = absurd (cc)
role_spelled before at (name ∷ []) h e = absurd (cc)
role_spelled before at [] h e = absurd (cc)

roles_spelled : (before : List (List ℕ)) (fs : List Form) → AllProper fs → roles_faults before fs ≡ [] → AreSpelledRoles (roles_in fs)
roles_spelled before fs h e =
    of_roles AllProper (λ names rs. AreSpelledRoles rs) (λ names. each_of_none (IsSpelledRole IsStringText IsSymbolText))
    (λ names at forms rs proper q hs. each_more (IsSpelledRole IsStringText IsSymbolText) (role_of forms) rs (role_spelled names at forms proper q) hs) before fs (each_behind_proper fs h) e

-- The strings and identifiers of the roles of a protocol without faults, stated by proper forms, are proper.
pub protocol_spelled : (names : List (List ℕ)) (at : Place) (fs : List Form) → AllProper fs → protocol_faults names at fs ≡ [] → AreSpelledRoles (protocol_of fs).roles
protocol_spelled names at (name ∷ algebra ∷ items) h e =
    roles_spelled [] items h.1.1 (none_of_three (name_faults_at names (λ q. fault q DuplicateProtocol) name) (algebra_faults algebra) (roles_faults [] items) e).2
protocol_spelled names at (name ∷ []) h e = absurd (cc)
protocol_spelled names at [] h e = absurd (cc)
