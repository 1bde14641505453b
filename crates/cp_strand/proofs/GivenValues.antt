-- The values of a role's assumptions that apply to an instance, one by one.
use Rattle.std.proofs.Common.{◌≡◌, ℕ, ◌+◌, ◌<◌, ◌≤◌, nat_lt, List, [], ◌∷◌, ◌++◌, length, get_or, map, drop, refl, sym, ap, ◌∙◌, arith, Bool, true, false, Option, Some, None, if◌then◌else◌, lt-ltb, append_assoc}
use Rattle.std.proofs.lemmas.Bool.Decides.{nat_tests}
use Rattle.std.proofs.lemmas.List.{append-nil, map-append, drop_all}
use Rattle.cp_lists.proofs.Members.{drop_read}
use Rattle.cp_model.specs.Term.{AtomTerm, atom_term, variables_of_atom, apply_to_atom}
use Rattle.cp_model.specs.Bindings.{Binding, as_substitution, bindings_of}
use Rattle.cp_model.specs.Strand.{Role, OriginatesInTerms, variables_of_prefix}
use Rattle.cp_model.specs.Bundle.{node_at}
use Rattle.cp_model.specs.Skeleton.{UniqueAt}
use Rattle.cp_model.specs.Same.{has_variables, origin_in}
use Rattle.cp_model.specs.Given.{applying, unique_if_below, applying_uniques}
use Rattle.cp_model.proofs.SameTests.{origin_found, finds_origin}
use Rattle.cp_strand.specs.declared.given.IndexedUnique.{IndexedUnique}
use Rattle.cp_strand.specs.Givens.{unique_on}
use Rattle.cp_strand.specs.View.{InstanceData}

no-place : (role : Role) (v : AtomTerm) → ((i : ℕ) → OriginatesInTerms role.trace (atom_term v) i → ⊥) → origin_in role.trace (atom_term v) ≡ None
no-place role v none = by_place (origin_in role.trace (atom_term v)) refl
  where
    by_place : (o : Option ℕ) → origin_in role.trace (atom_term v) ≡ o → o ≡ None
    by_place None e = refl
    by_place (Some i) e = absurd (none i (origin_found role.trace (atom_term v) i e))

at-height : (i height : ℕ) → height ≤ i → nat_lt i height ≡ false
at-height i height le = grind (arith, nat_tests)

-- A list that grew by an item, and what follows.
grown : {A : Type 0} (us ws rest : List A) (x y : A) → ws ≡ us ++ x ∷ [] → x ≡ y → ws ++ rest ≡ us ++ y ∷ rest
grown us ws rest x y g e = ap (λ zs. zs ++ rest) g ∙ append_assoc us (x ∷ []) rest ∙ ap (λ z. us ++ z ∷ rest) e

module _ (k : InstanceData) where
  abbrev role : Role
  role = k.role

  abbrev height : ℕ
  height = k.height

  abbrev terms : List Binding
  terms = bindings_of k.values

  -- The atoms that apply.
  module _ (vs : List AtomTerm) (n : ℕ) (us all : List AtomTerm)
      (v : AtomTerm) (lt : n < length vs) (is : v ≡ get_or vs n v) (h : us ++ applying role height terms (drop n vs) ≡ all) where
    abbrev rest_of : List AtomTerm
    rest_of = applying role height terms (drop (n + 1) vs)

    whole : (b : Bool) → b ≡ has_variables (variables_of_prefix role height) (variables_of_atom v) → us ++ applying role height terms (drop n vs)
        ≡ us ++ (if b then apply_to_atom (as_substitution terms) v ∷ rest_of else rest_of)
    whole b e =
        ap (λ ls. us ++ applying role height terms ls) (drop_read vs n v lt is)
        ∙ ap (λ c. us ++ (if c then apply_to_atom (as_substitution terms) v ∷ rest_of else rest_of)) (sym e)

    pub value-applies : true ≡ has_variables (variables_of_prefix role height) (variables_of_atom v) → (ws : List AtomTerm) (x : AtomTerm) → ws ≡ us ++ x ∷ []
        → x ≡ apply_to_atom (as_substitution terms) v → ws ++ rest_of ≡ all
    value-applies e ws x g f = grown us ws rest_of x _ g f ∙ sym (whole true e) ∙ h

    pub value-left : false ≡ has_variables (variables_of_prefix role height) (variables_of_atom v) → us ++ rest_of ≡ all
    value-left e = sym (whole false e) ∙ h

  -- Those that originate, where the strand has number s.
  module _ (s : ℕ) (vs : List AtomTerm) (n : ℕ) (us : List IndexedUnique) (all : List UniqueAt)
      (v : AtomTerm) (lt : n < length vs) (is : v ≡ get_or vs n v) (h : map (unique_on s) us ++ applying_uniques role height terms s (drop n vs) ≡ all) where
    abbrev rest : List UniqueAt
    rest = applying_uniques role height terms s (drop (n + 1) vs)

    given-here : (o : Option ℕ) → origin_in role.trace (atom_term v) ≡ o → map (unique_on s) us ++ (unique_if_below height s (apply_to_atom (as_substitution terms) v) o ++ rest) ≡ all
    given-here o e =
        ap (λ p. map (unique_on s) us ++ (unique_if_below height s (apply_to_atom (as_substitution terms) v) p ++ rest)) (sym e)
        ∙ sym (ap (λ ls. map (unique_on s) us ++ applying_uniques role height terms s ls) (drop_read vs n v lt is)) ∙ h

    pub nowhere-originates : ((i : ℕ) → OriginatesInTerms role.trace (atom_term v) i → ⊥) → map (unique_on s) us ++ rest ≡ all
    nowhere-originates none = given-here None (no-place role v none)

    below-or-not : (i : ℕ) (b : Bool) → nat_lt i height ≡ b → OriginatesInTerms role.trace (atom_term v) i
        → map (unique_on s) us ++ ((if b then record { value = apply_to_atom (as_substitution terms) v; origin = node_at s i } ∷ [] else []) ++ rest) ≡ all
    below-or-not i b e o =
        ap (λ c. map (unique_on s) us ++ ((if c then record { value = apply_to_atom (as_substitution terms) v; origin = node_at s i } ∷ [] else []) ++ rest)) (sym e)
        ∙ given-here (Some i) (finds_origin role.trace (atom_term v) i o)

    pub originates-late : (i : ℕ) → OriginatesInTerms role.trace (atom_term v) i → height ≤ i → map (unique_on s) us ++ rest ≡ all
    originates-late i o le = below-or-not i false (at-height i height le) o

    pub originates-below : (i : ℕ) → OriginatesInTerms role.trace (atom_term v) i → i < height → (value : AtomTerm) → value ≡ apply_to_atom (as_substitution terms) v
        → (ws : List IndexedUnique) → ws ≡ us ++ record { value = value; index = i } ∷ [] → map (unique_on s) ws ++ rest ≡ all
    originates-below i o below value e ws g =
        grown (map (unique_on s) us) (map (unique_on s) ws) rest (record { value = value; origin = node_at s i }) (record { value = apply_to_atom (as_substitution terms) v; origin = node_at s i })
        (ap (map (unique_on s)) g ∙ map-append (unique_on s) us (record { value = value; index = i } ∷ [])) (ap (λ w. record { value = w; origin = node_at s i }) e)
        ∙ below-or-not i true (lt-ltb i height below) o

-- Where nothing is left, the values are all.
pub all-applied : {A : Type 0} (f : List AtomTerm → List A) (vs : List AtomTerm) (n : ℕ) (us all : List A) → length vs ≤ n → f [] ≡ [] → us ++ f (drop n vs) ≡ all → us ≡ all
all-applied f vs n us all le none h = sym (append-nil us) ∙ ap (λ zs. us ++ zs) (sym none ∙ ap f (sym (drop_all n vs le))) ∙ h
