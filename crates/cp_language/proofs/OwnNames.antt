-- Names in input without faults are of one thing each: a role's name of one role of its protocol, and an identifier that a
-- problem declares of one variable.
use Rattle.std.proofs.Common.{◌≡◌, ℕ, suc, ◌<◌, List, [], ◌∷◌, ◌++◌, length, Bool, true, false, Some, refl, sym, ◌∙◌, if◌then◌else◌}
use Rattle.std.proofs.lemmas.Bool.{or_parts, cond-true, cond-false}
use Rattle.cp_base.specs.declared.place.Place.{Place}
use Rattle.cp_base.specs.declared.place.Code.TheVariants.{DuplicateRole}
use Rattle.cp_lists.specs.Lists.{item_at, IsIn, here, there}
use Rattle.cp_lists.proofs.Items.{item_in_front}
use Rattle.cp_lists.proofs.Appended.{none_of_four}
use Rattle.cp_model.specs.declared.variable.Variable.{Variable}
use Rattle.cp_model.specs.Strand.{Role}
use Rattle.cp_model.specs.declared.variable.Declaration.{Declaration}
use Rattle.cp_model.specs.Same.{same_text}
use Rattle.cp_model.proofs.SameTests.{same_text_itself}
use Rattle.cp_sexpr.specs.Syntax.{Form, symbol, string, number, list}
use Rattle.cp_language.specs.Words.{is_one_of}
use Rattle.cp_language.specs.Faults.{fault}
use Rattle.cp_language.specs.Terms.{variable_from, variable_named}
use Rattle.cp_language.specs.Roles.{text_of_symbol, vars_faults, declarations_of, events_stated, trace_faults, each_faults, item_faults, role_item_faults, name_faults_at, role_faults, role_of, roles_faults, roles_in}
use Rattle.cp_language.specs.Problems.{role_named}
use Rattle.cp_language.proofs.EachRole.{of_roles}
use Rattle.cp_language.proofs.Names.{AreDistinct, other_way, named_itself}

-- ---- roles

-- The names of the roles are none of these, and different.
abbrev pub HaveOwnNames : List (List ℕ) → List Role → Type 0
HaveOwnNames before [] = Unit {0}
HaveOwnNames before (r ∷ rs) = (is_one_of r.name before ≡ false) × HaveOwnNames (r.name ∷ before) rs

new_name : (before : List (List ℕ)) (f : Form) → name_faults_at before (λ p. fault p DuplicateRole) f ≡ [] → is_one_of (text_of_symbol f) before ≡ false
new_name before (symbol at t) e = by (is_one_of t before) e
  where
    by : (b : Bool) → (if b then fault at DuplicateRole else []) ≡ [] → b ≡ false
    by true q = absurd (cc)
    by false q = refl
new_name before (string at t) e = absurd (cc)
new_name before (number at n) e = absurd (cc)
new_name before (list at fs) e = absurd (cc)

new_role : (before : List (List ℕ)) (at : Place) (fs : List Form) → role_faults before at fs ≡ [] → is_one_of (role_of fs).name before ≡ false
new_role before at (name ∷ vars ∷ trace ∷ items) e =
    let ds = declarations_of vars in
    new_name before name (none_of_four (name_faults_at before (λ p. fault p DuplicateRole) name) (vars_faults vars) (trace_faults ds trace) (each_faults (item_faults (role_item_faults ds (events_stated ds trace))) items) e).0
new_role before at (name ∷ vars ∷ []) e = absurd (cc)
new_role before at (name ∷ []) e = absurd (cc)
new_role before at [] e = absurd (cc)

-- Roles without faults have names of their own.
pub roles_named : (before : List (List ℕ)) (fs : List Form) → roles_faults before fs ≡ [] → HaveOwnNames before (roles_in fs)
roles_named before fs e = of_roles (λ forms. Unit {0}) HaveOwnNames (λ names. tt) (λ names at forms rs g q h. (new_role names at forms q, h)) before fs (λ f i. tt) e

-- each of them is none of those before
none_of_those : (before : List (List ℕ)) (rs : List Role) (r : Role) → HaveOwnNames before rs → IsIn r rs → is_one_of r.name before ≡ false
none_of_those before [] r h m = elim m [ ]
none_of_those before (s ∷ rs) r h here = h.0
none_of_those before (s ∷ rs) r h (there m) = (or_parts (same_text r.name s.name) (is_one_of r.name before) (none_of_those (s.name ∷ before) rs r h.1 m)).1

-- A role is found by its name.
pub role_found : (before : List (List ℕ)) (rs : List Role) (r : Role) → HaveOwnNames before rs → IsIn r rs → role_named rs r.name ≡ Some r
role_found before [] r h m = elim m [ ]
role_found before (s ∷ rs) r h here = cond-true (same_text r.name r.name) (Some r) (role_named rs r.name) (same_text_itself r.name)
role_found before (s ∷ rs) r h (there m) =
    let differs = other_way r.name s.name (or_parts (same_text r.name s.name) (is_one_of r.name before) (none_of_those (s.name ∷ before) rs r h.1 m)).0 in
    cond-false (same_text s.name r.name) (Some s) (role_named rs r.name) differs ∙ role_found (s.name ∷ before) rs r h.1 m

-- ---- declared variables

-- An identifier that is found is found with more declarations behind.
still_named : (n : ℕ) (ds others : List Declaration) (t : List ℕ) (x : Variable) → variable_from n ds t ≡ Some x → variable_from n (ds ++ others) t ≡ Some x
still_named n [] others t x e = absurd (cc)
still_named n (d ∷ ds) others t x e = by (same_text d.identifier t) e (still_named (suc n) ds others t x)
  where
    by : (b : Bool) → (if b then Some (record { sort = d.sort; number = n }) else variable_from (suc n) ds t) ≡ Some x → (variable_from (suc n) ds t ≡ Some x → variable_from (suc n) (ds ++ others) t ≡ Some x)
        → (if b then Some (record { sort = d.sort; number = n }) else variable_from (suc n) (ds ++ others) t) ≡ Some x
    by true q rest = q
    by false q rest = rest q

-- A declared identifier is that of its own variable, whatever the identifiers of the variables behind.
pub declared_named : (ds others : List Declaration) (i : ℕ) (d : Declaration) → AreDistinct [] ds → i < length ds → item_at (ds ++ others) i ≡ Some d →
    variable_named (ds ++ others) d.identifier ≡ Some (record { sort = d.sort; number = i })
declared_named ds others i d h less e =
    still_named 0 ds others d.identifier (record { sort = d.sort; number = i }) (named_itself ds i d h (sym (item_in_front ds others i less) ∙ e))
