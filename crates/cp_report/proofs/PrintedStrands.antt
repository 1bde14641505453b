-- Strands as a report prints them fit, and are read back as the same strands under the renaming.
use Rattle.std.proofs.Common.{◌≡◌, ℕ, zero, suc, ◌+◌, ◌≤◌, List, [], ◌∷◌, ◌++◌, length, Bool, true, false, refl, sym, ap, ◌∙◌, subst, arith, if◌then◌else◌}
use Rattle.std.specs.Prelude.{Option, Some, nat_lt, nat_le, ◌&&◌}
use Rattle.std.proofs.lemmas.Bool.Decides.{nat_tests}
use Rattle.cp_base.specs.declared.place.Place.{Place}
use Rattle.cp_lists.specs.Lists.{item_at, IsIn}
use Rattle.cp_model.specs.Term.{skey_variable, akey_variable, apply_to, variable_term, symmetric_term, asymmetric_term, AtomTerm, text_variable, datum_variable, name_variable, key_term, Term, atom_term, variables_of, Substitution, apply_to_atom, composed, AgreeOnTerms}
use Rattle.cp_model.specs.Bindings.{Binding, as_substitution, bindings_of, sort_of_atom}
use Rattle.cp_model.specs.declared.sort.Sort.{Sort}
use Rattle.cp_model.specs.declared.sort.Sort.TheVariants.{Text as text_sort, Datum as datum_sort, Name as name_sort, Skey as skey_sort, Akey as akey_sort}
use Rattle.cp_model.specs.declared.variable.Variable.{Variable}
use Rattle.cp_model.specs.Strand.{Role, variables_of_prefix, IsHeight}
use Rattle.cp_model.specs.declared.variable.Declaration.{Declaration}
use Rattle.cp_model.specs.Values.{text_in, datum_in, name_in, skey_in, akey_in, substitution_by}
use Rattle.cp_model.specs.Problem.{IsDeclared}
use Rattle.cp_model.specs.Skeleton.{SkeletonStrand, instance, listener}
use Rattle.cp_model.specs.Same.{same_sort, has_variable}
use Rattle.cp_model.proofs.LawTerms.{term_composed}
use Rattle.cp_model.proofs.DeclaredTerms.{bindings_are}
use Rattle.cp_model.proofs.SameTests.{same_sort_itself, variable_in, in_has_variable}
use Rattle.cp_sexpr.specs.Syntax.{Form, forms_of}
use Rattle.cp_language.specs.Faults.{items_of}
use Rattle.cp_language.specs.Terms.{is_sort}
use Rattle.cp_language.specs.Problems.{is_known, role_named}
use Rattle.cp_language.specs.Printed.{term_form, word, numeral, plain_list, variable, no_place}
use Rattle.cp_language.specs.Report.{maplets_from, strand_form}
use Rattle.cp_report.specs.Misfits.{misfit_unless, unless_misfit}
use Rattle.cp_report.specs.Spelled.{Scope, term_misfits, sort_in, term_in}
use Rattle.cp_report.specs.Skeletons.{declared_in_prefix, mapping_misfits, value_mapped, values_mapped, height_misfits, prefix_misfits, strand_misfits, instance_with, strand_of}
use Rattle.cp_report.specs.UpToNames.{renamed, renaming, IsSameStrandUnder}
use Rattle.cp_report.proofs.SpelledTerms.{StandsFor, atom_fits, printed_term_fits}
use Rattle.cp_report.proofs.PrintedVariables.{declared_there}
use Rattle.cp_report.proofs.ApartIdentifiers.{NamesOwn, apart_identifiers, all_found, apart_in_prefix}
use Rattle.cp_report.proofs.PrintedMaplets.{maplets_of, ValuesFit, mapping_fits, value_back}

pub items_back : (fs : List Form) → items_of (forms_of fs) ≡ fs
items_back [] = refl
items_back (f ∷ fs) = ap (λ gs. f ∷ gs) (items_back fs)

-- ---- atoms and sorts

pub sort_kept : (t : Substitution) (v : AtomTerm) → sort_of_atom (apply_to_atom t v) ≡ sort_of_atom v
sort_kept t (key_term (symmetric_term k)) = refl
sort_kept t (key_term (asymmetric_term flag k)) = refl
sort_kept t _ = refl

-- An atom of the variable's sort at its number is what the substitution gives it.
pub value_taken : (ts : List Term) (r : Sort) (n : ℕ) (v : AtomTerm) → item_at ts n ≡ Some (atom_term v) → sort_of_atom v ≡ r → apply_to (substitution_by ts) (variable_term (variable r n)) ≡ atom_term v
value_taken ts text_sort n (text_variable m) e s = ap (λ o. atom_term (text_variable (text_in n o))) e
value_taken ts datum_sort n (datum_variable m) e s = ap (λ o. atom_term (datum_variable (datum_in n o))) e
value_taken ts name_sort n (name_variable m) e s = ap (λ o. atom_term (name_variable (name_in n o))) e
value_taken ts skey_sort n (key_term (symmetric_term k)) e s = ap (λ o. atom_term (key_term (symmetric_term (skey_in n o)))) e
value_taken ts akey_sort n (key_term (asymmetric_term flag k)) e s = ap (λ o. atom_term (key_term (asymmetric_term (akey_in n o).0 (akey_in n o).1))) e
value_taken ts text_sort n (key_term (symmetric_term k)) e s = absurd (cc)
value_taken ts text_sort n (key_term (asymmetric_term flag k)) e s = absurd (cc)
value_taken ts datum_sort n (key_term (symmetric_term k)) e s = absurd (cc)
value_taken ts datum_sort n (key_term (asymmetric_term flag k)) e s = absurd (cc)
value_taken ts name_sort n (key_term (symmetric_term k)) e s = absurd (cc)
value_taken ts name_sort n (key_term (asymmetric_term flag k)) e s = absurd (cc)
value_taken _ _ _ _ _ s = absurd (cc)

-- The term is an atom of this sort.
abbrev pub HasSort : Sort → Term → Type 0
HasSort r t = (v : AtomTerm) × (t ≡ atom_term v) × (sort_of_atom v ≡ r)

-- A variable has its sort.
pub variable_sorted : (r : Sort) (n : ℕ) → HasSort r (variable_term (variable r n))
variable_sorted text_sort n = (text_variable n, refl, refl)
variable_sorted datum_sort n = (datum_variable n, refl, refl)
variable_sorted name_sort n = (name_variable n, refl, refl)
variable_sorted skey_sort n = (key_term (symmetric_term (skey_variable n)), refl, refl)
variable_sorted akey_sort n = (key_term (asymmetric_term false (akey_variable n)), refl, refl)

-- A substitution keeps sorts.
pub sorted_under : (f : Substitution) (r : Sort) (t : Term) → HasSort r t → HasSort r (apply_to f t)
sorted_under f r t (v, same, sorted) = (apply_to_atom f v, ap (apply_to f) same, sort_kept f v ∙ sorted)

-- A term of the variable's sort at its number is what the substitution gives it.
sorted_taken : (ts : List Term) (r : Sort) (n : ℕ) (t : Term) → item_at ts n ≡ Some t → HasSort r t → apply_to (substitution_by ts) (variable_term (variable r n)) ≡ t
sorted_taken ts r n t e (v, same, sorted) = value_taken ts r n v (e ∙ ap (λ (u : Term). Some u) same) sorted ∙ sym same

values_at : (s : Scope) (fs : List Form) (ds : List Declaration) (i : ℕ) (d : Declaration) → item_at ds i ≡ Some d → item_at (values_mapped s fs ds) i ≡ Some (value_mapped s d.identifier fs)
values_at s fs [] i d e = absurd (cc)
values_at s fs (c ∷ ds) zero d e = let p : c ≡ d = cc in ap (λ (x : Declaration). Some (value_mapped s x.identifier fs)) p
values_at s fs (c ∷ ds) (suc i) d e = values_at s fs ds i d e

-- ---- terms of a sort

module _ (s : Scope) (named : Variable → Form) (number : Variable → ℕ) where
  -- A term of a sort, as it is printed, has that sort.
  pub sorted_value : (r : Sort) (t : Term) → ((x : Variable) → IsIn x (variables_of t) → StandsFor s (named x) (renamed number x)) → HasSort r t → is_sort r (sort_in s (term_form named t)) ≡ true
  sorted_value r t h (v, same, sorted) =
      ap (λ (u : Term). is_sort r (sort_in s (term_form named u))) same
      ∙ ap (is_sort r) (atom_fits s named number v (λ x m. h x (subst (λ (u : Term). IsIn x (variables_of u)) (sym same) m))).sort
      ∙ ap (same_sort r) (sort_kept (renaming number) v ∙ sorted) ∙ same_sort_itself r

-- ---- maplets of a prefix

module _ (s : Scope) (named : Variable → Form) (number : Variable → ℕ) (prefix : List Variable) (terms : List Binding)
    (stands : (x : Variable) → IsIn x prefix → (y : Variable) → IsIn y (variables_of (apply_to (as_substitution terms) (variable_term x))) → StandsFor s (named y) (renamed number y)) where
  abbrev value_form : Sort → ℕ → Form
  value_form r n = term_form named (apply_to (as_substitution terms) (variable_term (variable r n)))

  abbrev prefix_values : ℕ → List Declaration → List Form
  prefix_values n [] = []
  prefix_values n (d ∷ ds) = if has_variable prefix (variable d.sort n) then value_form d.sort n ∷ prefix_values (suc n) ds else prefix_values (suc n) ds

  maplets_are : (n : ℕ) (ds : List Declaration) → maplets_from named prefix terms n ds ≡ maplets_of (declared_in_prefix prefix n ds) (prefix_values n ds)
  maplets_are n [] = refl
  maplets_are n (d ∷ ds) = by (has_variable prefix (variable d.sort n)) (maplets_are (suc n) ds)
    where
      by : (b : Bool) → maplets_from named prefix terms (suc n) ds ≡ maplets_of (declared_in_prefix prefix (suc n) ds) (prefix_values (suc n) ds)
          → (if b then plain_list (word d.identifier ∷ value_form d.sort n ∷ []) ∷ maplets_from named prefix terms (suc n) ds else maplets_from named prefix terms (suc n) ds)
          ≡ maplets_of (if b then d ∷ declared_in_prefix prefix (suc n) ds else declared_in_prefix prefix (suc n) ds) (if b then value_form d.sort n ∷ prefix_values (suc n) ds else prefix_values (suc n) ds)
      by true e = ap (λ (fs : List Form). plain_list (word d.identifier ∷ value_form d.sort n ∷ []) ∷ fs) e
      by false e = e

  value_fits : (r : Sort) (n : ℕ) → has_variable prefix (variable r n) ≡ true → (term_misfits s (value_form r n) ≡ []) × (is_sort r (sort_in s (value_form r n)) ≡ true)
  value_fits r n h =
      let x = variable r n in
      let t = apply_to (as_substitution terms) (variable_term x) in
      let stand = stands x (variable_in prefix x h) in
      ((printed_term_fits s named number t stand).0, sorted_value s named number r t stand (sorted_under (as_substitution terms) r (variable_term x) (variable_sorted r n)))

  values_fit : (n : ℕ) (ds : List Declaration) → ValuesFit s (declared_in_prefix prefix n ds) (prefix_values n ds)
  values_fit n [] = tt
  values_fit n (d ∷ ds) = by (has_variable prefix (variable d.sort n)) refl (values_fit (suc n) ds)
    where
      by : (b : Bool) → has_variable prefix (variable d.sort n) ≡ b → ValuesFit s (declared_in_prefix prefix (suc n) ds) (prefix_values (suc n) ds)
          → ValuesFit s (if b then d ∷ declared_in_prefix prefix (suc n) ds else declared_in_prefix prefix (suc n) ds) (if b then value_form d.sort n ∷ prefix_values (suc n) ds else prefix_values (suc n) ds)
      by true h rest = (value_fits d.sort n h, rest)
      by false h rest = rest

  -- where the maplet of a variable of the prefix stands
  abbrev PlacedAt : ℕ → List Declaration → Declaration → ℕ → Type 0
  PlacedAt n ds d m = (j : ℕ) × (item_at (declared_in_prefix prefix n ds) j ≡ Some d) × (item_at (prefix_values n ds) j ≡ Some (value_form d.sort m))

  placed : (n : ℕ) (ds : List Declaration) (i : ℕ) (d : Declaration) → item_at ds i ≡ Some d → has_variable prefix (variable d.sort (n + i)) ≡ true → PlacedAt n ds d (n + i)
  placed n [] i d e h = absurd (cc)
  placed n (c ∷ ds) zero d e h =
      let same : c ≡ d = cc in
      let z : n + 0 ≡ n = omega arith in
      let there_it : has_variable prefix (variable c.sort n) ≡ true = subst (λ (x : Declaration). has_variable prefix (variable x.sort n) ≡ true) (sym same) (subst (λ (k : ℕ). has_variable prefix (variable d.sort k) ≡ true) z h) in
      subst (λ (k : ℕ). PlacedAt n (c ∷ ds) d k) (sym z) (subst (λ (x : Declaration). PlacedAt n (c ∷ ds) x n) same (
        0,
        ap (λ (b : Bool). item_at (if b then c ∷ declared_in_prefix prefix (suc n) ds else declared_in_prefix prefix (suc n) ds) 0) there_it,
        ap (λ (b : Bool). item_at (if b then value_form c.sort n ∷ prefix_values (suc n) ds else prefix_values (suc n) ds) 0) there_it,
      ))
  placed n (c ∷ ds) (suc i) d e h =
      let z : suc n + i ≡ n + suc i = omega arith in
      let r : PlacedAt (suc n) ds d (n + suc i) = subst (λ (k : ℕ). PlacedAt (suc n) ds d k) z (placed (suc n) ds i d e (subst (λ (k : ℕ). has_variable prefix (variable d.sort k) ≡ true) (sym z) h)) in
      by (has_variable prefix (variable c.sort n)) refl r
    where
      by : (b : Bool) → has_variable prefix (variable c.sort n) ≡ b → PlacedAt (suc n) ds d (n + suc i) → PlacedAt n (c ∷ ds) d (n + suc i)
      by true f r = (
        suc r.0,
        ap (λ (b : Bool). item_at (if b then c ∷ declared_in_prefix prefix (suc n) ds else declared_in_prefix prefix (suc n) ds) (suc r.0)) f ∙ r.1,
        ap (λ (b : Bool). item_at (if b then value_form c.sort n ∷ prefix_values (suc n) ds else prefix_values (suc n) ds) (suc r.0)) f ∙ r.2,
      )
      by false f r = (
        r.0,
        ap (λ (b : Bool). item_at (if b then c ∷ declared_in_prefix prefix (suc n) ds else declared_in_prefix prefix (suc n) ds) r.0) f ∙ r.1,
        ap (λ (b : Bool). item_at (if b then value_form c.sort n ∷ prefix_values (suc n) ds else prefix_values (suc n) ds) r.0) f ∙ r.2,
      )

  module _ (ds : List Declaration) (own : NamesOwn ds) (declared : (x : Variable) → IsIn x prefix → IsDeclared ds x) where
    -- The maplets of a prefix fit.
    pub prefix_fits : (at : Place) → mapping_misfits s (declared_in_prefix prefix 0 ds) at (maplets_from named prefix terms 0 ds) ≡ []
    prefix_fits at =
        let apart = apart_in_prefix prefix 0 ds (apart_identifiers ds own) in
        ap (mapping_misfits s (declared_in_prefix prefix 0 ds) at) (maplets_are 0 ds)
        ∙ mapping_fits s at (declared_in_prefix prefix 0 ds) (prefix_values 0 ds) (all_found (declared_in_prefix prefix 0 ds) apart) apart (values_fit 0 ds)

    -- and the terms of its variables are given back
    pub prefix_agrees : AgreeOnTerms prefix (composed (as_substitution terms) (renaming number)) (as_substitution (bindings_of (values_mapped s (maplets_from named prefix terms 0 ds) ds)))
    prefix_agrees x m = term_composed (as_substitution terms) (renaming number) (variable_term x) ∙ sym taken
      where
        d : (c : Declaration) × (item_at ds x.number ≡ Some c) × (c.sort ≡ x.sort)
        d = declared_there ds x (declared x m)

        z : 0 + x.number ≡ x.number
        z = omega arith

        there_it : has_variable prefix (variable d.0.sort (0 + x.number)) ≡ true
        there_it = subst (λ (k : ℕ). has_variable prefix (variable d.0.sort k) ≡ true) (sym z) (subst (λ (r : Sort). has_variable prefix (variable r x.number) ≡ true) (sym d.2) (in_has_variable prefix x m))

        place : PlacedAt 0 ds d.0 (0 + x.number)
        place = placed 0 ds x.number d.0 d.1 there_it

        mapped : value_mapped s d.0.identifier (maplets_from named prefix terms 0 ds) ≡ term_in s (value_form d.0.sort (0 + x.number))
        mapped =
            ap (value_mapped s d.0.identifier) (maplets_are 0 ds)
            ∙ value_back s (declared_in_prefix prefix 0 ds) (prefix_values 0 ds) place.0 d.0 (value_form d.0.sort (0 + x.number)) (apart_in_prefix prefix 0 ds (apart_identifiers ds own)) place.1 place.2

        term : term_in s (value_form x.sort x.number) ≡ apply_to (renaming number) (apply_to (as_substitution terms) (variable_term x))
        term = (printed_term_fits s named number (apply_to (as_substitution terms) (variable_term x)) (stands x m)).1

        at : item_at (values_mapped s (maplets_from named prefix terms 0 ds) ds) x.number ≡ Some (apply_to (renaming number) (apply_to (as_substitution terms) (variable_term x)))
        at =
            values_at s (maplets_from named prefix terms 0 ds) ds x.number d.0 d.1
            ∙ ap (λ (t : Term). Some t) (mapped ∙ ap (λ (k : ℕ). term_in s (value_form d.0.sort k)) z ∙ ap (λ (r : Sort). term_in s (value_form r x.number)) d.2 ∙ term)

        taken : apply_to (as_substitution (bindings_of (values_mapped s (maplets_from named prefix terms 0 ds) ds))) (variable_term x) ≡ apply_to (renaming number) (apply_to (as_substitution terms) (variable_term x))
        taken =
            ap (λ (g : Substitution). apply_to g (variable_term x)) (bindings_are (values_mapped s (maplets_from named prefix terms 0 ds) ds))
            ∙ sorted_taken (values_mapped s (maplets_from named prefix terms 0 ds) ds) x.sort x.number (apply_to (renaming number) (apply_to (as_substitution terms) (variable_term x))) at
            (sorted_under (renaming number) x.sort (apply_to (as_substitution terms) (variable_term x)) (sorted_under (as_substitution terms) x.sort (variable_term x) (variable_sorted x.sort x.number)))

-- ---- strands

height_test : (h n : ℕ) → 1 ≤ h → h ≤ n → (nat_lt 0 h && nat_le h n) ≡ true
height_test h n p q = grind (arith, nat_tests)

-- A role that its name finds, with declared variables that its identifiers name.
pub record IsFound (roles : List Role) (role : Role) (height : ℕ) : Type 0 where
  pub named : role_named roles role.name ≡ Some role
  pub own : NamesOwn role.variables
  pub declared : (x : Variable) → IsIn x (variables_of_prefix role height) → IsDeclared role.variables x

-- What stands for the variables of a strand.
abbrev pub StandIn : Scope → (Variable → Form) → (Variable → ℕ) → SkeletonStrand → Type 0
StandIn s named number (instance role height terms) =
    (x : Variable) → IsIn x (variables_of_prefix role height) → (y : Variable) → IsIn y (variables_of (apply_to (as_substitution terms) (variable_term x))) → StandsFor s (named y) (renamed number y)
StandIn s named number (listener t) = (x : Variable) → IsIn x (variables_of t) → StandsFor s (named x) (renamed number x)

abbrev pub RoleFits : List Role → SkeletonStrand → Type 0
RoleFits roles (instance role height terms) = IsFound roles role height × IsHeight role height
RoleFits roles (listener t) = Unit {0}

module _ (roles : List Role) (s : Scope) (named : Variable → Form) (number : Variable → ℕ) where
  pub strand_fits : (k : SkeletonStrand) → RoleFits roles k → StandIn s named number k → strand_misfits roles s (strand_form named k) ≡ []
  strand_fits (instance role height terms) (found, height_is) stands =
      let maplets = maplets_from named (variables_of_prefix role height) terms 0 role.variables in
      ap (λ (fs : List Form). unless_misfit ((misfit_unless (is_known (role_named roles role.name)) no_place) ++ height_misfits (role_named roles role.name) (numeral height)) (prefix_misfits s (role_named roles role.name) height no_place fs)) (items_back maplets)
      ∙ ap (λ (o : Option Role). unless_misfit ((misfit_unless (is_known o) no_place) ++ height_misfits o (numeral height)) (prefix_misfits s o height no_place maplets)) found.named
      ∙ ap (λ (b : Bool). unless_misfit (misfit_unless b no_place) (mapping_misfits s (declared_in_prefix (variables_of_prefix role height) 0 role.variables) no_place maplets)) (height_test height (length role.trace) height_is.0 height_is.1)
      ∙ prefix_fits s named number (variables_of_prefix role height) terms stands role.variables found.own found.declared no_place
  strand_fits (listener t) fit stands = ap (λ (ps : List Place). ps ++ []) (printed_term_fits s named number t stands).0

  pub strand_back : (k : SkeletonStrand) → RoleFits roles k → StandIn s named number k → IsSameStrandUnder (renaming number) k (strand_of roles s (strand_form named k))
  strand_back (instance role height terms) (found, height_is) stands =
      let maplets = maplets_from named (variables_of_prefix role height) terms 0 role.variables in
      let back : strand_of roles s (strand_form named (instance role height terms)) ≡ instance role height (bindings_of (values_mapped s maplets role.variables))
      = ap (λ (fs : List Form). instance_with s (role_named roles role.name) height fs) (items_back maplets) ∙ ap (λ (o : Option Role). instance_with s o height maplets) found.named in
      subst (λ (k : SkeletonStrand). IsSameStrandUnder (renaming number) (instance role height terms) k) (sym back)
      (refl, refl, prefix_agrees s named number (variables_of_prefix role height) terms stands role.variables found.own found.declared)
  strand_back (listener t) fit stands = sym (printed_term_fits s named number t stands).1
