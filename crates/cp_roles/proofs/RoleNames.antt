-- Roles that are defined one after another.
use Rattle.std.proofs.Common.{◌≡◌, ℕ, ◌+◌, ◌-◌, ◌<◌, ◌≤◌, ◌||◌, List, [], ◌∷◌, ◌++◌, length, get_or, map, take, drop, Bool, true, false, if◌then◌else◌, refl, sym, ap, ◌∙◌, arith}
use Rattle.std.specs.Prelude.{Option, Some, None}
use Rattle.std.proofs.lemmas.List.{take_all}
use Rattle.cp_lists.proofs.Members.{drop_read}
use Rattle.cp_base.specs.declared.place.Place.{Place}
use Rattle.cp_base.specs.declared.place.Code.TheVariants.{BadShape, DuplicateRole}
use Rattle.cp_base.specs.declared.place.Refusal.{Refusal}
use Rattle.cp_model.specs.Term.{Term}
use Rattle.cp_model.specs.Strand.{Role}
use Rattle.cp_model.specs.declared.strand.Event.{Event}
use Rattle.cp_model.specs.declared.variable.Declaration.{Declaration}
use Rattle.cp_sexpr.specs.Syntax.{Form, symbol, string, number, list}
use Rattle.cp_sexpr.specs.View.{view}
use Rattle.cp_sexpr.specs.declared.form.Form as program
use Rattle.cp_model.specs.Same.{same_text}
use Rattle.cp_language.specs.declared.words.ItemHead.{ItemHead}
use Rattle.cp_language.specs.declared.words.ItemHead.TheVariants.{Role as role_item, Non as non_item, PenetratorNon as penetrator_non_item, Unique as unique_item, Strand as strand_item, Listener as listener_item, Precedes as precedes_item, Comment as comment_item, OutOfProfile as item_out_of_profile, Unknown as no_item}
use Rattle.cp_language.specs.Words.{is_one_of, item_head}
use Rattle.cp_language.specs.Faults.{fault, place_of}
use Rattle.cp_language.specs.Roles.{Headed, headed, name_faults_at, vars_faults, declarations_of, trace_faults, events_stated, each_faults, item_faults, headed_item_faults, role_item_faults, role_faults, role_of, is_role_item, protocol_item_faults, role_name_onto, roles_faults, roles_in, item_or_none, items_behind}
use Rattle.cp_scope.specs.FirstFault.{first_onto}
use Rattle.cp_roles.specs.Named.{names_of_roles, role_behind, with_role}
use Rattle.cp_scope.proofs.Views.{headed_is}
use Rattle.cp_scope.proofs.Firsts.{first_onto-append, first_then_four}
use Rattle.cp_scope.proofs.DeclaredIdentifiers.{AreSameNames, names-swap}

-- ---- one role

pub few_items : (b : List (List ℕ)) (at : Place) (fs : List program.Form) → length fs < 3 → fault at BadShape ≡ role_faults b at (map view fs)
few_items b at [] l = refl
few_items b at (x ∷ []) l = refl
few_items b at (x ∷ y ∷ []) l = refl
few_items b at (x ∷ y ∷ z ∷ fs) l = absurd (omega arith)

abbrev pub name_vars_trace_items : List (List ℕ) → Form → Form → Form → List Declaration → List (Event Term) → List Form → List Refusal
name_vars_trace_items b n v t ds es fs =
    name_faults_at b (λ p. fault p DuplicateRole) n ++ vars_faults v ++ trace_faults ds t ++ each_faults (item_faults (role_item_faults ds es)) fs

role_items : (b : List (List ℕ)) (at : Place) (fs : List program.Form) (n v t : program.Form) → 3 ≤ length fs → n ≡ get_or fs 0 n → v ≡ get_or fs 1 v → t ≡ get_or fs 2 t
    → name_vars_trace_items b (view n) (view v) (view t) (declarations_of (view v)) (events_stated (declarations_of (view v)) (view t)) (map view (take (length fs - 3) (drop 3 fs))) ≡ role_faults b at (map view fs)
role_items b at [] n v t l e f g = absurd (omega arith)
role_items b at (x ∷ []) n v t l e f g = absurd (omega arith)
role_items b at (x ∷ y ∷ []) n v t l e f g = absurd (omega arith)
role_items b at (x ∷ y ∷ z ∷ fs) n v t l e f g =
    let whole : Form → Form → Form → List program.Form → List Refusal = λ k w u gs. name_vars_trace_items b k w u (declarations_of w) (events_stated (declarations_of w) u) (map view gs) in
    ap (λ k. whole (view k) (view v) (view t) (take (length (x ∷ y ∷ z ∷ fs) - 3) fs)) e
    ∙ ap (λ w. whole (view x) (view w) (view t) (take (length (x ∷ y ∷ z ∷ fs) - 3) fs)) f
    ∙ ap (λ u. whole (view x) (view y) (view u) (take (length (x ∷ y ∷ z ∷ fs) - 3) fs)) g
    ∙ ap (whole (view x) (view y) (view z)) (take_all (length (x ∷ y ∷ z ∷ fs) - 3) fs (omega arith))

module _ (b : List (List ℕ)) (at : Place) (fs : List program.Form) (n v t : program.Form) (l : 3 ≤ length fs) (en : n ≡ get_or fs 0 n) (ev : v ≡ get_or fs 1 v) (et : t ≡ get_or fs 2 t) where
  pub role-read : (ds ds' ds'' : List Declaration) (es : List (Event Term)) (o p q r s : Option Refusal)
      → ds ≡ declarations_of (view v) → ds' ≡ declarations_of (view v) → es ≡ events_stated ds' (view t) → ds'' ≡ declarations_of (view v)
      → p ≡ first_onto o (name_faults_at b (λ x. fault x DuplicateRole) (view n)) → q ≡ first_onto p (vars_faults (view v)) → r ≡ first_onto q (trace_faults ds (view t))
      → s ≡ first_onto r (each_faults (item_faults (role_item_faults ds'' es)) (map view (take (length fs - 3) (drop 3 fs))))
      → s ≡ first_onto o (role_faults b at (map view fs))
  role-read ds ds' ds'' es o p q r s e e' f e'' hp hq hr hs =
      let rest = map view (take (length fs - 3) (drop 3 fs)) in
      let events : es ≡ events_stated (declarations_of (view v)) (view t) = f ∙ ap (λ d. events_stated d (view t)) e' in
      first_then_four o p q r s (name_faults_at b (λ x. fault x DuplicateRole) (view n)) (vars_faults (view v)) (trace_faults (declarations_of (view v)) (view t))
      (each_faults (item_faults (role_item_faults (declarations_of (view v)) (events_stated (declarations_of (view v)) (view t)))) rest)
      hp hq (hr ∙ ap (λ d. first_onto q (trace_faults d (view t))) e)
      (hs ∙ ap (λ d. first_onto r (each_faults (item_faults (role_item_faults d es)) rest)) e'' ∙ ap (λ us. first_onto r (each_faults (item_faults (role_item_faults (declarations_of (view v)) us)) rest)) events)
      ∙ ap (first_onto o) (role_items b at fs n v t l en ev et)

pub role-stated : (b : List (List ℕ)) (f : Form) (h : Headed) → Some h ≡ headed f → role_item ≡ item_head h.head → role_faults b h.at h.items ≡ item_faults (protocol_item_faults b) f
role-stated b f h is role =
    let faults = protocol_item_faults b in
    ap (λ i. faults h.at i h.items) role ∙ ap (λ at. headed_item_faults faults at (Some h)) (sym (ap place_of (headed_is f h (sym is)).whole)) ∙ ap (headed_item_faults faults (place_of f)) is

-- ---- the names do not depend on their order

pub name-names : (b c : List (List ℕ)) (d : Place → List Refusal) (f : Form) → AreSameNames b c → name_faults_at b d f ≡ name_faults_at c d f
name-names b c d (symbol at t) h = ap (λ x. if x then d at else []) (h t)
name-names b c d (string at t) h = refl
name-names b c d (number at n) h = refl
name-names b c d (list at fs) h = refl

role-names : (b c : List (List ℕ)) (at : Place) (fs : List Form) → AreSameNames b c → role_faults b at fs ≡ role_faults c at fs
role-names b c at [] h = refl
role-names b c at (x ∷ []) h = refl
role-names b c at (x ∷ y ∷ []) h = refl
role-names b c at (x ∷ y ∷ z ∷ fs) h =
    ap (λ rs. rs ++ vars_faults y ++ trace_faults (declarations_of y) z ++ each_faults (item_faults (role_item_faults (declarations_of y) (events_stated (declarations_of y) z))) fs) (name-names b c (λ p. fault p DuplicateRole) x h)

item-names : (b c : List (List ℕ)) (at : Place) (i : ItemHead) (fs : List Form) → AreSameNames b c → protocol_item_faults b at i fs ≡ protocol_item_faults c at i fs
item-names b c at role_item fs h = role-names b c at fs h
item-names b c at non_item fs h = refl
item-names b c at penetrator_non_item fs h = refl
item-names b c at unique_item fs h = refl
item-names b c at strand_item fs h = refl
item-names b c at listener_item fs h = refl
item-names b c at precedes_item fs h = refl
item-names b c at comment_item fs h = refl
item-names b c at item_out_of_profile fs h = refl
item-names b c at no_item fs h = refl

headed-names : (b c : List (List ℕ)) (at : Place) (o : Option Headed) → AreSameNames b c → headed_item_faults (protocol_item_faults b) at o ≡ headed_item_faults (protocol_item_faults c) at o
headed-names b c at None h = refl
headed-names b c at (Some x) h = item-names b c at (item_head x.head) x.items h

onto-names : (b c : List (List ℕ)) (o : Option Headed) → AreSameNames b c → AreSameNames (role_name_onto o b) (role_name_onto o c)
onto-names b c None h t = h t
onto-names b c (Some x) h t = by_test (is_role_item (item_head x.head))
  where
    by_test : (d : Bool) → is_one_of t (if d then (role_of x.items).name ∷ b else b) ≡ is_one_of t (if d then (role_of x.items).name ∷ c else c)
    by_test true = ap (λ y. same_text t (role_of x.items).name || y) (h t)
    by_test false = h t

roles-names : (b c : List (List ℕ)) (fs : List Form) → AreSameNames b c → roles_faults b fs ≡ roles_faults c fs
roles-names b c [] h = refl
roles-names b c (f ∷ fs) h =
    ap (λ rs. rs ++ roles_faults (role_name_onto (headed f) b) fs) (headed-names b c (place_of f) (headed f) h)
    ∙ ap (λ rs. item_faults (protocol_item_faults c) f ++ rs) (roles-names (role_name_onto (headed f) b) (role_name_onto (headed f) c) fs (onto-names b c (headed f) h))

names-append : (rs : List Role) (r : Role) → names_of_roles (rs ++ r ∷ []) ≡ names_of_roles rs ++ r.name ∷ []
names-append [] r = refl
names-append (q ∷ qs) r = ap (λ ns. q.name ∷ ns) (names-append qs r)

names-with : (rs : List Role) (o : Option Headed) → AreSameNames (names_of_roles (with_role rs o)) (role_name_onto o (names_of_roles rs))
names-with rs None t = refl
names-with rs (Some x) t = by_test (is_role_item (item_head x.head))
  where
    by_test : (d : Bool) → is_one_of t (names_of_roles (role_behind d rs (role_of x.items))) ≡ is_one_of t (if d then (role_of x.items).name ∷ names_of_roles rs else names_of_roles rs)
    by_test true = ap (is_one_of t) (names-append rs (role_of x.items)) ∙ names-swap (names_of_roles rs) ((role_of x.items).name ∷ []) t
    by_test false = refl

append-one : (rs qs : List Role) (r : Role) → (rs ++ r ∷ []) ++ qs ≡ rs ++ r ∷ qs
append-one [] qs r = refl
append-one (p ∷ ps) qs r = ap (λ xs. p ∷ xs) (append-one ps qs r)

roles-with : (rs : List Role) (o : Option Headed) (qs : List Role) → with_role rs o ++ qs ≡ rs ++ (if is_role_item (item_or_none o) then role_of (items_behind o) ∷ qs else qs)
roles-with rs None qs = refl
roles-with rs (Some x) qs = by_test (is_role_item (item_head x.head))
  where
    by_test : (d : Bool) → role_behind d rs (role_of x.items) ++ qs ≡ rs ++ (if d then role_of x.items ∷ qs else qs)
    by_test true = append-one rs qs (role_of x.items)
    by_test false = refl

-- ---- one item of a protocol after another

module _ (fs : List program.Form) (k : ℕ) where
  pub roles-taken : (f : program.Form) → k < length fs → f ≡ get_or fs k f → (rs qs : List Role) (o p all : Option Refusal)
      → qs ≡ with_role rs (headed (view f)) → p ≡ first_onto o (item_faults (protocol_item_faults (names_of_roles rs)) (view f))
      → first_onto o (roles_faults (names_of_roles rs) (map view (drop k fs))) ≡ all
      → first_onto p (roles_faults (names_of_roles qs) (map view (drop (k + 1) fs))) ≡ all
  roles-taken f lt is rs qs o p all e q i =
      let rest = map view (drop (k + 1) fs) in
      let behind = role_name_onto (headed (view f)) (names_of_roles rs) in
      ap (λ xs. first_onto p (roles_faults (names_of_roles xs) rest)) e
      ∙ ap (first_onto p) (roles-names (names_of_roles (with_role rs (headed (view f)))) behind rest (names-with rs (headed (view f))))
      ∙ ap (λ x. first_onto x (roles_faults behind rest)) q
      ∙ sym (first_onto-append o (item_faults (protocol_item_faults (names_of_roles rs)) (view f)) (roles_faults behind rest))
      ∙ sym (ap (λ gs. first_onto o (roles_faults (names_of_roles rs) (map view gs))) (drop_read fs k f lt is)) ∙ i

  pub roles-in-taken : (f : program.Form) → k < length fs → f ≡ get_or fs k f → (rs qs all : List Role)
      → qs ≡ with_role rs (headed (view f)) → rs ++ roles_in (map view (drop k fs)) ≡ all → qs ++ roles_in (map view (drop (k + 1) fs)) ≡ all
  roles-in-taken f lt is rs qs all e i =
      ap (λ xs. xs ++ roles_in (map view (drop (k + 1) fs))) e ∙ roles-with rs (headed (view f)) (roles_in (map view (drop (k + 1) fs)))
      ∙ sym (ap (λ gs. rs ++ roles_in (map view gs)) (drop_read fs k f lt is)) ∙ i
