-- Where declarations, events, roles and protocols of the input stand does not matter for their faults, nor for what they
-- stand for.
use Rattle.std.proofs.Common.{◌≡◌, ℕ, List, [], ◌∷◌, ◌++◌, true, false, refl, sym, ◌∙◌, ap}
use Rattle.std.specs.Prelude.{Bool, Option, Some, None, codes, option_map, if◌then◌else◌}
use Rattle.std.proofs.lemmas.List.{map-append}
use Rattle.cp_base.specs.declared.place.Place.{Place}
use Rattle.cp_base.specs.declared.place.Code.TheVariants.{OutOfProfile, BadShape, DuplicateProtocol, DuplicateRole, MesgVar, DuplicateVar, RoleUniqNoOrigin}
use Rattle.cp_base.specs.declared.place.Refusal.{Refusal}
use Rattle.cp_model.specs.Term.{AtomTerm, Term}
use Rattle.cp_model.specs.declared.sort.Sort.{Sort}
use Rattle.cp_model.specs.Strand.{Role}
use Rattle.cp_model.specs.declared.strand.Event.{Event}
use Rattle.cp_model.specs.declared.strand.Event.TheVariants.{Send as send, Receive as recv}
use Rattle.cp_model.specs.declared.variable.Declaration.{Declaration}
use Rattle.cp_model.specs.Same.{same_text, origin_in}
use Rattle.cp_sexpr.specs.Syntax.{Form, symbol, string, number, list}
use Rattle.cp_sexpr.specs.Pieces.{start}
use Rattle.cp_sexpr.specs.ReadBack.{unplaced}
use Rattle.cp_language.specs.declared.words.SortWord.{SortWord}
use Rattle.cp_language.specs.declared.words.SortWord.TheVariants.{Atoms as of_sort, Messages as of_messages, OutOfProfile as sort_out_of_profile, Unknown as no_sort}
use Rattle.cp_language.specs.declared.words.EventHead.{EventHead}
use Rattle.cp_language.specs.declared.words.EventHead.TheVariants.{Send as sending, Recv as receiving, OutOfProfile as event_out_of_profile, Unknown as no_event}
use Rattle.cp_language.specs.declared.words.ItemHead.{ItemHead}
use Rattle.cp_language.specs.declared.words.ItemHead.TheVariants.{Role as role_item, Non as non_item, PenetratorNon as penetrator_non_item, Unique as unique_item}
use Rattle.cp_language.specs.Words.{is_one_of, heads_out_of_profile, sort_word, event_head, item_head}
use Rattle.cp_language.specs.Faults.{fault, place_of, items_of}
use Rattle.cp_language.specs.Terms.{lacks, term_faults, atom_faults, as_atom, term_of}
use Rattle.cp_language.specs.Roles.{Headed, headed, text_of_symbol, fixed_head_faults, fixed_faults, items_behind, front_of, last_form, sort_named, is_of_messages, sort_or_text, sort_word_faults, last_sort_faults, identifier_faults, identifiers_faults, declared_identifiers, list_items, declaration_faults, declarations_faults, vars_faults, declared_of, declarations_in, declarations_of, message_faults, event_head_faults, headed_event_faults, event_faults, events_faults, trace_faults, where_faultless, message_of, is_sending, event_of, events_in, events_stated, is_somewhere, unless_faulty, role_unique_faults, each_faults, role_item_faults, headed_item_faults, item_faults, name_faults_at, role_faults, atoms_in, item_or_none, forms_under, is_non_item, is_penetrator_non_item, is_unique_item, role_of, is_role_item, protocol_item_faults, role_name_onto, roles_faults, algebra_faults, protocol_faults, roles_in, protocol_of}
use Rattle.cp_report.specs.Heads.{forms_after_head}
use Rattle.cp_report.proofs.Moved.{all_moved, place_moved, items_moved, entries_moved, last_moved, front_moved}
use Rattle.cp_report.proofs.MovedItems.{list_items_moved, text_moved, sort_named_moved}
use Rattle.cp_report.proofs.MovedLabels.{headed_at_start, headed_moved}
use Rattle.cp_report.proofs.MovedFaults.{faults_at_start, IsMovedFault, two, fault_at_form, bad_shape_moved, lacks_moved, term_faults_moved, atom_faults_moved, term_of_moved, atom_of_moved}

-- What finds faults behind a head.
abbrev pub IsMovedBehind : (Place → List Form → List Refusal) → Type 0
IsMovedBehind inside = (at : Place) (fs : List Form) → inside start (all_moved fs) ≡ faults_at_start (inside at fs)

pub chosen_faults : (b : Bool) (xs ys us vs : List Refusal) → us ≡ faults_at_start xs → vs ≡ faults_at_start ys → (if b then us else vs) ≡ faults_at_start (if b then xs else ys)
chosen_faults true xs ys us vs e f = e
chosen_faults false xs ys us vs e f = f

fixed_head_moved : (word : List ℕ) (at : Place) (inside : Place → List Form → List Refusal) → IsMovedBehind inside → (o : Option Headed) →
    fixed_head_faults word start inside (option_map headed_at_start o) ≡ faults_at_start (fixed_head_faults word at inside o)
fixed_head_moved word at inside m None = refl
fixed_head_moved word at inside m (Some h) =
    chosen_faults (same_text h.head word) _ _ _ _ (m at h.items) (chosen_faults (is_one_of h.head heads_out_of_profile) _ _ _ _ refl refl)

fixed_moved : (word : List ℕ) (inside : Place → List Form → List Refusal) → IsMovedBehind inside → IsMovedFault (fixed_faults word inside)
fixed_moved word inside m f =
    ap (λ p. fixed_head_faults word p inside (headed (unplaced f))) (place_moved f) ∙ ap (fixed_head_faults word start inside) (headed_moved f)
    ∙ fixed_head_moved word (place_of f) inside m (headed f)

-- ---- declarations

sort_word_moved : (at : Place) (w : SortWord) → sort_word_faults start w ≡ faults_at_start (sort_word_faults at w)
sort_word_moved at (of_sort s) = refl
sort_word_moved at of_messages = refl
sort_word_moved at sort_out_of_profile = refl
sort_word_moved at no_sort = refl

last_sort_moved : (o : Option Form) → last_sort_faults (option_map unplaced o) ≡ faults_at_start (last_sort_faults o)
last_sort_moved None = refl
last_sort_moved (Some (symbol at t)) = sort_word_moved at (sort_word t)
last_sort_moved (Some (string at t)) = refl
last_sort_moved (Some (number at n)) = refl
last_sort_moved (Some (list at fs)) = refl

identifier_faults_moved : (before : List (List ℕ)) (w : SortWord) → IsMovedFault (identifier_faults before w)
identifier_faults_moved before w (symbol at t) =
    two _ _ _ _ (chosen_faults (is_of_messages w) (fault at MesgVar) [] _ _ refl refl) (chosen_faults (is_one_of t before) (fault at DuplicateVar) [] _ _ refl refl)
identifier_faults_moved before w (string at t) = refl
identifier_faults_moved before w (number at n) = refl
identifier_faults_moved before w (list at fs) = refl

identifiers_moved : (before : List (List ℕ)) (w : SortWord) (fs : List Form) → identifiers_faults before w (all_moved fs) ≡ faults_at_start (identifiers_faults before w fs)
identifiers_moved before w [] = refl
identifiers_moved before w (f ∷ fs) =
    two _ _ _ _ (identifier_faults_moved before w f) (ap (λ t. identifiers_faults (t ∷ before) w (all_moved fs)) (text_moved f) ∙ identifiers_moved (text_of_symbol f ∷ before) w fs)

declared_identifiers_moved : (fs : List Form) → declared_identifiers (all_moved fs) ≡ declared_identifiers fs
declared_identifiers_moved [] = refl
declared_identifiers_moved (f ∷ fs) = ap (λ t. t ∷ declared_identifiers (all_moved fs)) (text_moved f) ∙ ap (λ ts. text_of_symbol f ∷ ts) (declared_identifiers_moved fs)

last_sort_named : (fs : List Form) → sort_named (last_form (all_moved fs)) ≡ sort_named (last_form fs)
last_sort_named fs = ap sort_named (last_moved fs) ∙ sort_named_moved (last_form fs)

declaration_list_moved : (before : List (List ℕ)) (at : Place) (fs : List Form) →
    lacks 2 start (all_moved fs) ++ identifiers_faults before (sort_named (last_form (all_moved fs))) (front_of (all_moved fs)) ++ last_sort_faults (last_form (all_moved fs))
    ≡ faults_at_start (lacks 2 at fs ++ identifiers_faults before (sort_named (last_form fs)) (front_of fs) ++ last_sort_faults (last_form fs))
declaration_list_moved before at fs =
    two _ _ _ _ (two _ _ _ _ (lacks_moved 2 at fs)
    (ap (λ w. identifiers_faults before w (front_of (all_moved fs))) (last_sort_named fs) ∙ ap (identifiers_faults before (sort_named (last_form fs))) (front_moved fs)
    ∙ identifiers_moved before (sort_named (last_form fs)) (front_of fs)))
    (ap last_sort_faults (last_moved fs) ∙ last_sort_moved (last_form fs))

declaration_faults_moved : (before : List (List ℕ)) → IsMovedFault (declaration_faults before)
declaration_faults_moved before (list at fs) =
    ap (λ gs. lacks 2 start gs ++ identifiers_faults before (sort_named (last_form gs)) (front_of gs) ++ last_sort_faults (last_form gs)) (items_moved fs)
    ∙ declaration_list_moved before at (items_of fs)
declaration_faults_moved before (symbol at t) = refl
declaration_faults_moved before (string at t) = refl
declaration_faults_moved before (number at n) = refl

front_items_moved : (f : Form) → front_of (list_items (unplaced f)) ≡ all_moved (front_of (list_items f))
front_items_moved f = ap front_of (list_items_moved f) ∙ front_moved (list_items f)

declarations_faults_moved : (before : List (List ℕ)) (fs : List Form) → declarations_faults before (all_moved fs) ≡ faults_at_start (declarations_faults before fs)
declarations_faults_moved before [] = refl
declarations_faults_moved before (f ∷ fs) =
    two _ _ _ _ (declaration_faults_moved before f)
    (ap (λ gs. declarations_faults (declared_identifiers gs ++ before) (all_moved fs)) (front_items_moved f)
    ∙ ap (λ ts. declarations_faults (ts ++ before) (all_moved fs)) (declared_identifiers_moved (front_of (list_items f)))
    ∙ declarations_faults_moved (declared_identifiers (front_of (list_items f)) ++ before) fs)

pub vars_faults_moved : IsMovedFault vars_faults
vars_faults_moved f = fixed_moved (codes "vars") (λ at ds. declarations_faults [] ds) (λ at fs. declarations_faults_moved [] fs) f

declared_of_moved : (s : Sort) (fs : List Form) → declared_of s (all_moved fs) ≡ declared_of s fs
declared_of_moved s [] = refl
declared_of_moved s (f ∷ fs) = ap (λ t. record { identifier = t; sort = s } ∷ declared_of s (all_moved fs)) (text_moved f) ∙ ap (λ ds. record { identifier = text_of_symbol f; sort = s } ∷ ds) (declared_of_moved s fs)

declarations_in_moved : (fs : List Form) → declarations_in (all_moved fs) ≡ declarations_in fs
declarations_in_moved [] = refl
declarations_in_moved (f ∷ fs) =
    ap (λ gs. declared_of (sort_or_text (sort_named (last_form gs))) (front_of gs) ++ declarations_in (all_moved fs)) (list_items_moved f)
    ∙ ap (λ w. declared_of (sort_or_text w) (front_of (all_moved (list_items f))) ++ declarations_in (all_moved fs)) (last_sort_named (list_items f))
    ∙ ap (λ gs. declared_of (sort_or_text (sort_named (last_form (list_items f)))) gs ++ declarations_in (all_moved fs)) (front_moved (list_items f))
    ∙ ap (λ ds. ds ++ declarations_in (all_moved fs)) (declared_of_moved (sort_or_text (sort_named (last_form (list_items f)))) (front_of (list_items f)))
    ∙ ap (λ ds. declared_of (sort_or_text (sort_named (last_form (list_items f)))) (front_of (list_items f)) ++ ds) (declarations_in_moved fs)

pub declarations_of_moved : (f : Form) → declarations_of (unplaced f) ≡ declarations_of f
declarations_of_moved f = ap declarations_in (entries_moved f) ∙ declarations_in_moved (forms_after_head f)

-- ---- events

message_faults_moved : (ds : List Declaration) → IsMovedBehind (message_faults ds)
message_faults_moved ds at [] = refl
message_faults_moved ds at (f ∷ []) = term_faults_moved ds f
message_faults_moved ds at (f ∷ g ∷ []) = refl
message_faults_moved ds at (f ∷ g ∷ h ∷ fs) = two _ _ _ _ (two _ _ _ _ (term_faults_moved ds f) (term_faults_moved ds g)) (bad_shape_moved h BadShape)

event_head_moved : (ds : List Declaration) (at : Place) (h : EventHead) (fs : List Form) → event_head_faults ds start h (all_moved fs) ≡ faults_at_start (event_head_faults ds at h fs)
event_head_moved ds at sending fs = message_faults_moved ds at fs
event_head_moved ds at receiving fs = message_faults_moved ds at fs
event_head_moved ds at event_out_of_profile fs = refl
event_head_moved ds at no_event fs = refl

headed_event_moved : (ds : List Declaration) (at : Place) (o : Option Headed) → headed_event_faults ds start (option_map headed_at_start o) ≡ faults_at_start (headed_event_faults ds at o)
headed_event_moved ds at None = refl
headed_event_moved ds at (Some h) = event_head_moved ds at (event_head h.head) h.items

event_faults_moved : (ds : List Declaration) → IsMovedFault (event_faults ds)
event_faults_moved ds f =
    ap (λ p. headed_event_faults ds p (headed (unplaced f))) (place_moved f) ∙ ap (headed_event_faults ds start) (headed_moved f) ∙ headed_event_moved ds (place_of f) (headed f)

events_faults_moved : (ds : List Declaration) (fs : List Form) → events_faults ds (all_moved fs) ≡ faults_at_start (events_faults ds fs)
events_faults_moved ds [] = refl
events_faults_moved ds (f ∷ fs) = two _ _ _ _ (event_faults_moved ds f) (events_faults_moved ds fs)

trace_faults_moved : (ds : List Declaration) → IsMovedFault (trace_faults ds)
trace_faults_moved ds f = fixed_moved (codes "trace") (λ at es. lacks 1 at es ++ events_faults ds es) (λ at fs. two _ _ _ _ (lacks_moved 1 at fs) (events_faults_moved ds fs)) f

faultless_moved : (rs : List Refusal) (t : Term) → where_faultless (faults_at_start rs) t ≡ where_faultless rs t
faultless_moved [] t = refl
faultless_moved (r ∷ rs) t = refl

message_of_moved : (ds : List Declaration) (fs : List Form) → message_of ds (all_moved fs) ≡ message_of ds fs
message_of_moved ds [] = refl
message_of_moved ds (f ∷ fs) =
    ap (λ rs. where_faultless rs (term_of ds (unplaced f))) (term_faults_moved ds f) ∙ ap (where_faultless (faults_at_start (term_faults ds f))) (term_of_moved ds f)
    ∙ faultless_moved (term_faults ds f) (term_of ds f)

event_of_moved : (ds : List Declaration) (o : Option Headed) → event_of ds (option_map headed_at_start o) ≡ event_of ds o
event_of_moved ds None = refl
event_of_moved ds (Some h) = ap (λ m. if is_sending (event_head h.head) then send m else recv m) (message_of_moved ds h.items)

events_in_moved : (ds : List Declaration) (fs : List Form) → events_in ds (all_moved fs) ≡ events_in ds fs
events_in_moved ds [] = refl
events_in_moved ds (f ∷ fs) =
    ap (λ e. e ∷ events_in ds (all_moved fs)) (ap (event_of ds) (headed_moved f) ∙ event_of_moved ds (headed f)) ∙ ap (λ es. event_of ds (headed f) ∷ es) (events_in_moved ds fs)

events_of_moved : (ds : List Declaration) (f : Form) → events_stated ds (unplaced f) ≡ events_stated ds f
events_of_moved ds f = ap (events_in ds) (entries_moved f) ∙ events_in_moved ds (forms_after_head f)

-- ---- roles

pub unless_faulty_moved : (xs ys us vs : List Refusal) → us ≡ faults_at_start xs → vs ≡ faults_at_start ys → unless_faulty us vs ≡ faults_at_start (unless_faulty xs ys)
unless_faulty_moved [] ys us vs e f = ap (λ zs. unless_faulty zs vs) e ∙ f
unless_faulty_moved (x ∷ xs) ys us vs e f = ap (λ zs. unless_faulty zs vs) e

role_unique_moved : (ds : List Declaration) (trace : List (Event Term)) → IsMovedFault (role_unique_faults ds trace)
role_unique_moved ds trace f =
    unless_faulty_moved _ _ _ _ (atom_faults_moved ds f)
    (fault_at_form (is_somewhere (origin_in trace (term_of ds (unplaced f)))) (is_somewhere (origin_in trace (term_of ds f))) f RoleUniqNoOrigin (ap (λ t. is_somewhere (origin_in trace t)) (term_of_moved ds f)))

pub each_faults_of_moved : (kind : Form → List Refusal) → IsMovedFault kind → (fs : List Form) → each_faults kind (all_moved fs) ≡ faults_at_start (each_faults kind fs)
each_faults_of_moved kind m [] = refl
each_faults_of_moved kind m (f ∷ fs) = two _ _ _ _ (m f) (each_faults_of_moved kind m fs)

-- What finds faults in an item, by its head.
abbrev pub IsMovedItem : (Place → ItemHead → List Form → List Refusal) → Type 0
IsMovedItem kind = (at : Place) (h : ItemHead) (fs : List Form) → kind start h (all_moved fs) ≡ faults_at_start (kind at h fs)

role_item_moved : (ds : List Declaration) (trace : List (Event Term)) → IsMovedItem (role_item_faults ds trace)
role_item_moved ds trace at non_item fs = each_faults_of_moved (atom_faults ds) (atom_faults_moved ds) fs
role_item_moved ds trace at penetrator_non_item fs = each_faults_of_moved (atom_faults ds) (atom_faults_moved ds) fs
role_item_moved ds trace at unique_item fs = each_faults_of_moved (role_unique_faults ds trace) (role_unique_moved ds trace) fs
role_item_moved ds trace at _ fs = refl

headed_item_moved : (kind : Place → ItemHead → List Form → List Refusal) → IsMovedItem kind → (at : Place) (o : Option Headed) → headed_item_faults kind start (option_map headed_at_start o) ≡ faults_at_start (headed_item_faults kind at o)
headed_item_moved kind m at None = refl
headed_item_moved kind m at (Some h) = m at (item_head h.head) h.items

pub item_faults_moved : (kind : Place → ItemHead → List Form → List Refusal) → IsMovedItem kind → IsMovedFault (item_faults kind)
item_faults_moved kind m f =
    ap (λ p. headed_item_faults kind p (headed (unplaced f))) (place_moved f) ∙ ap (headed_item_faults kind start) (headed_moved f) ∙ headed_item_moved kind m (place_of f) (headed f)

item_or_none_of : (o : Option Headed) → item_or_none (option_map headed_at_start o) ≡ item_or_none o
item_or_none_of None = refl
item_or_none_of (Some h) = refl

pub item_or_none_moved : (f : Form) → item_or_none (headed (unplaced f)) ≡ item_or_none (headed f)
item_or_none_moved f = ap item_or_none (headed_moved f) ∙ item_or_none_of (headed f)

duplicate_role_moved : (before : List (List ℕ)) → IsMovedFault (name_faults_at before (λ p. fault p DuplicateRole))
duplicate_role_moved before (symbol at t) = chosen_faults (is_one_of t before) (fault at DuplicateRole) [] _ _ refl refl
duplicate_role_moved before (string at t) = refl
duplicate_role_moved before (number at n) = refl
duplicate_role_moved before (list at fs) = refl

duplicate_protocol_moved : (before : List (List ℕ)) → IsMovedFault (name_faults_at before (λ p. fault p DuplicateProtocol))
duplicate_protocol_moved before (symbol at t) = chosen_faults (is_one_of t before) (fault at DuplicateProtocol) [] _ _ refl refl
duplicate_protocol_moved before (string at t) = refl
duplicate_protocol_moved before (number at n) = refl
duplicate_protocol_moved before (list at fs) = refl

role_faults_moved : (before : List (List ℕ)) → IsMovedBehind (role_faults before)
role_faults_moved before at [] = refl
role_faults_moved before at (name ∷ []) = refl
role_faults_moved before at (name ∷ vars ∷ []) = refl
role_faults_moved before at (name ∷ vars ∷ trace ∷ items) =
    let ds = declarations_of vars in
    two _ _ _ _ (two _ _ _ _ (two _ _ _ _ (duplicate_role_moved before name) (vars_faults_moved vars))
    (ap (λ d. trace_faults d (unplaced trace)) (declarations_of_moved vars) ∙ trace_faults_moved ds trace))
    (ap (λ d. each_faults (item_faults (role_item_faults d (events_stated d (unplaced trace)))) (all_moved items)) (declarations_of_moved vars)
    ∙ ap (λ es. each_faults (item_faults (role_item_faults ds es)) (all_moved items)) (events_of_moved ds trace)
    ∙ each_faults_of_moved (item_faults (role_item_faults ds (events_stated ds trace))) (item_faults_moved (role_item_faults ds (events_stated ds trace)) (role_item_moved ds (events_stated ds trace))) items)

pub atoms_in_moved : (ds : List Declaration) (fs : List Form) → atoms_in ds (all_moved fs) ≡ atoms_in ds fs
atoms_in_moved ds [] = refl
atoms_in_moved ds (f ∷ fs) = ap (λ v. v ∷ atoms_in ds (all_moved fs)) (atom_of_moved ds f) ∙ ap (λ vs. as_atom (term_of ds f) ∷ vs) (atoms_in_moved ds fs)

pub forms_under_moved : (test : ItemHead → Bool) (fs : List Form) → forms_under test (all_moved fs) ≡ all_moved (forms_under test fs)
forms_under_moved test [] = refl
forms_under_moved test (f ∷ fs) =
    ap (λ h. if test h then items_behind (headed (unplaced f)) ++ forms_under test (all_moved fs) else forms_under test (all_moved fs)) (item_or_none_moved f)
    ∙ by (test (item_or_none (headed f))) (forms_under_moved test fs)
  where
    by : (b : Bool) → forms_under test (all_moved fs) ≡ all_moved (forms_under test fs) →
        (if b then items_behind (headed (unplaced f)) ++ forms_under test (all_moved fs) else forms_under test (all_moved fs)) ≡ all_moved (if b then items_behind (headed f) ++ forms_under test fs else forms_under test fs)
    by true rest = ap (λ gs. gs ++ forms_under test (all_moved fs)) (entries_moved f) ∙ ap (λ gs. all_moved (forms_after_head f) ++ gs) rest ∙ sym (map-append unplaced (forms_after_head f) (forms_under test fs))
    by false rest = rest

pub atoms_under_head_moved : (ds : List Declaration) (test : ItemHead → Bool) (fs : List Form) → atoms_in ds (forms_under test (all_moved fs)) ≡ atoms_in ds (forms_under test fs)
atoms_under_head_moved ds test fs = ap (atoms_in ds) (forms_under_moved test fs) ∙ atoms_in_moved ds (forms_under test fs)

abbrev role_with : List ℕ → List Declaration → List (Event Term) → List AtomTerm → List AtomTerm → List AtomTerm → Role
role_with t ds es a b c = record { name = t; variables = ds; trace = es; non_originating = a; penetrator_non_originating = b; uniquely_originating = c }

role_of_moved : (fs : List Form) → role_of (all_moved fs) ≡ role_of fs
role_of_moved [] = refl
role_of_moved (name ∷ []) = refl
role_of_moved (name ∷ vars ∷ []) = refl
role_of_moved (name ∷ vars ∷ trace ∷ items) =
    let d = declarations_of_moved vars in
    let ds = declarations_of vars in
    let t = text_moved name in
    let es = events_of_moved ds trace in
    let a = atoms_under_head_moved ds is_non_item items in
    let b = atoms_under_head_moved ds is_penetrator_non_item items in
    let c = atoms_under_head_moved ds is_unique_item items in
    ap (λ e. role_with (text_of_symbol (unplaced name)) e (events_stated e (unplaced trace)) (atoms_in e (forms_under is_non_item (all_moved items)))
    (atoms_in e (forms_under is_penetrator_non_item (all_moved items))) (atoms_in e (forms_under is_unique_item (all_moved items)))) d
    ∙ (λ i. role_with (t i) ds (es i) (a i) (b i) (c i))

-- ---- protocols

protocol_item_moved : (before : List (List ℕ)) → IsMovedItem (protocol_item_faults before)
protocol_item_moved before at role_item fs = role_faults_moved before at fs
protocol_item_moved before at _ fs = refl

role_name_moved : (o : Option Headed) (before : List (List ℕ)) → role_name_onto (option_map headed_at_start o) before ≡ role_name_onto o before
role_name_moved None before = refl
role_name_moved (Some h) before = ap (λ r. if is_role_item (item_head h.head) then r.name ∷ before else before) (role_of_moved h.items)

roles_faults_moved : (before : List (List ℕ)) (fs : List Form) → roles_faults before (all_moved fs) ≡ faults_at_start (roles_faults before fs)
roles_faults_moved before [] = refl
roles_faults_moved before (f ∷ fs) =
    two _ _ _ _ (item_faults_moved (protocol_item_faults before) (protocol_item_moved before) f)
    (ap (λ o. roles_faults (role_name_onto o before) (all_moved fs)) (headed_moved f) ∙ ap (λ ts. roles_faults ts (all_moved fs)) (role_name_moved (headed f) before)
    ∙ roles_faults_moved (role_name_onto (headed f) before) fs)

algebra_moved : IsMovedFault algebra_faults
algebra_moved (symbol at t) = fault_at_form (same_text t (codes "basic")) (same_text t (codes "basic")) (symbol at t) OutOfProfile refl
algebra_moved (string at t) = refl
algebra_moved (number at n) = refl
algebra_moved (list at fs) = refl

pub protocol_faults_moved : (before : List (List ℕ)) → IsMovedBehind (protocol_faults before)
protocol_faults_moved before at [] = refl
protocol_faults_moved before at (name ∷ []) = refl
protocol_faults_moved before at (name ∷ algebra ∷ items) =
    two _ _ _ _ (two _ _ _ _ (duplicate_protocol_moved before name) (algebra_moved algebra)) (roles_faults_moved [] items)

roles_in_moved : (fs : List Form) → roles_in (all_moved fs) ≡ roles_in fs
roles_in_moved [] = refl
roles_in_moved (f ∷ fs) =
    ap (λ h. if is_role_item h then role_of (items_behind (headed (unplaced f))) ∷ roles_in (all_moved fs) else roles_in (all_moved fs)) (item_or_none_moved f)
    ∙ ap (λ r. if is_role_item (item_or_none (headed f)) then r ∷ roles_in (all_moved fs) else roles_in (all_moved fs)) (ap role_of (entries_moved f) ∙ role_of_moved (forms_after_head f))
    ∙ ap (λ rs. if is_role_item (item_or_none (headed f)) then role_of (items_behind (headed f)) ∷ rs else rs) (roles_in_moved fs)

pub protocol_of_moved : (fs : List Form) → protocol_of (all_moved fs) ≡ protocol_of fs
protocol_of_moved [] = refl
protocol_of_moved (name ∷ []) = refl
protocol_of_moved (name ∷ algebra ∷ items) = let t = text_moved name in let rs = roles_in_moved items in λ i. record { name = t i; roles = rs i }
