-- What atoms of a role give to an instance, as tests find it.
use Rattle.std.proofs.Common.{◌≡◌, ℕ, nat_lt, List, [], ◌∷◌, Bool, true, false, if◌then◌else◌, refl, sym, subst, ◌⊎◌, inl, inr, ⊎_elim, ltb-true}
use Rattle.std.specs.Prelude.{Option, Some, None}
use Rattle.std.proofs.lemmas.Bool.{lt-ltb}
use Rattle.std.proofs.lemmas.List.{append-nil}
use Rattle.cp_lists.specs.Lists.{IsIn, here, there}
use Rattle.cp_model.specs.Term.{AtomTerm, atom_term, variables_of_atom, apply_to_atom}
use Rattle.cp_model.specs.Bindings.{Binding, as_substitution}
use Rattle.cp_model.specs.Strand.{OriginatesInTerms, Role, variables_of_prefix, Applies, AppliesAt}
use Rattle.cp_model.specs.Bundle.{node_at}
use Rattle.cp_model.specs.Skeleton.{instance, UniqueAt, Assumptions}
use Rattle.cp_model.specs.Same.{has_variables, origin_in}
use Rattle.cp_model.specs.Given.{atoms_onto, uniques_onto, applying, unique_if_below, applying_uniques}
use Rattle.cp_lists.proofs.Members.{in_append, in_append_left, in_append_right, not_in_none, only_item, head_or_behind}
use Rattle.cp_model.proofs.SameTests.{origin_found, finds_origin, variables_there, there_variables}
use Rattle.cp_model.specs.GivenAssumptions.{IsGivenFrom, IsGivenNon, IsGivenPenetratorNon, IsOriginFrom, IsGivenUnique, AddsOnce, AddsGiven, with_given_from}
use Rattle.cp_skel.proofs.Once.{adds-same}
use Rattle.cp_model.proofs.Gathered.{atoms, uniques}
use Rattle.cp_skel.proofs.EachOnce.{adds-onto}

-- ---- atoms that apply

module _ (role : Role) (height : ℕ) (terms : List Binding) where
  behind : (a : AtomTerm) (bs : List AtomTerm) (v : AtomTerm) → IsGivenFrom bs role height terms v → IsGivenFrom (a ∷ bs) role height terms v
  behind a bs v g = record { atom = g.atom; listed = there g.listed; applies = g.applies; same = g.same }

  in-front : (a : AtomTerm) (bs : List AtomTerm) (v : AtomTerm) → Applies role height a → (v ≡ apply_to_atom (as_substitution terms) a) ⊎ IsGivenFrom bs role height terms v → IsGivenFrom (a ∷ bs) role height terms v
  in-front a bs v applies (inl e) = record { atom = a; listed = here; applies = applies; same = e }
  in-front a bs v applies (inr g) = behind a bs v g

  where-tested : (a : AtomTerm) (bs : List AtomTerm) (v : AtomTerm) (b : Bool) → has_variables (variables_of_prefix role height) (variables_of_atom a) ≡ b
      → IsIn v (if b then apply_to_atom (as_substitution terms) a ∷ applying role height terms bs else applying role height terms bs)
      → (IsIn v (applying role height terms bs) → IsGivenFrom bs role height terms v) → IsGivenFrom (a ∷ bs) role height terms v
  where-tested a bs v true e i rest =
      in-front a bs v (variables_there (variables_of_prefix role height) (variables_of_atom a) e)
      (⊎_elim (λ h. inl h) (λ j. inr (rest j)) (head_or_behind i))
  where-tested a bs v false e i rest = behind a bs v (rest i)

  given-atom : (stated : List AtomTerm) (v : AtomTerm) → IsIn v (applying role height terms stated) → IsGivenFrom stated role height terms v
  given-atom [] v i = absurd (not_in_none i)
  given-atom (a ∷ bs) v i = where-tested a bs v (has_variables (variables_of_prefix role height) (variables_of_atom a)) refl i (given-atom bs v)

  passes : (a : AtomTerm) (ws : List AtomTerm) (v : AtomTerm) (b : Bool) → IsIn v ws → IsIn v (if b then apply_to_atom (as_substitution terms) a ∷ ws else ws)
  passes a ws v true i = there i
  passes a ws v false i = i

  applying-in : (stated : List AtomTerm) (a : AtomTerm) → IsIn a stated → Applies role height a → IsIn (apply_to_atom (as_substitution terms) a) (applying role height terms stated)
  applying-in [] a i applies = elim i [ ]
  applying-in (a ∷ bs) b here applies =
      subst (λ c. IsIn (apply_to_atom (as_substitution terms) b) (if c then apply_to_atom (as_substitution terms) b ∷ applying role height terms bs else applying role height terms bs))
      (sym (there_variables (variables_of_prefix role height) (variables_of_atom b) applies)) here
  applying-in (a ∷ bs) b (there i) applies =
      passes a (applying role height terms bs) (apply_to_atom (as_substitution terms) b) (has_variables (variables_of_prefix role height) (variables_of_atom a)) (applying-in bs b i applies)

  pub atoms-given : (stated old : List AtomTerm) → AddsOnce (IsGivenFrom stated role height terms) old (atoms_onto old (applying role height terms stated))
  atoms-given stated old =
      adds-same (λ v. IsIn v (applying role height terms stated)) (IsGivenFrom stated role height terms) old (atoms_onto old (applying role height terms stated))
      (given-atom stated) (λ v g. subst (λ w. IsIn w (applying role height terms stated)) (sym g.same) (applying-in stated g.atom g.listed g.applies))
      (adds-onto atoms old (applying role height terms stated))

-- ---- atoms that originate

module _ (role : Role) (height : ℕ) (terms : List Binding) (s : ℕ) where
  abbrev unique-of : AtomTerm → ℕ → UniqueAt
  unique-of a i = record { value = apply_to_atom (as_substitution terms) a; origin = node_at s i }

  when-below : (a : AtomTerm) (bs : List AtomTerm) (u : UniqueAt) (i : ℕ) (b : Bool) → nat_lt i height ≡ b → OriginatesInTerms role.trace (atom_term a) i
      → IsIn u (if b then unique-of a i ∷ [] else []) → IsOriginFrom (a ∷ bs) role height terms s u
  when-below a bs u i true e o j = record { atom = a; index = i; listed = here; applies = (o, ltb-true i height e); same = only_item j }
  when-below a bs u i false e o j = absurd (not_in_none j)

  at-place : (a : AtomTerm) (bs : List AtomTerm) (u : UniqueAt) (o : Option ℕ) → origin_in role.trace (atom_term a) ≡ o
      → IsIn u (unique_if_below height s (apply_to_atom (as_substitution terms) a) o) → IsOriginFrom (a ∷ bs) role height terms s u
  at-place a bs u None e j = absurd (not_in_none j)
  at-place a bs u (Some i) e j = when-below a bs u i (nat_lt i height) refl (origin_found role.trace (atom_term a) i e) j

  given-unique : (stated : List AtomTerm) (u : UniqueAt) → IsIn u (applying_uniques role height terms s stated) → IsOriginFrom stated role height terms s u
  given-unique [] u j = absurd (not_in_none j)
  given-unique (a ∷ bs) u j =
      ⊎_elim (at-place a bs u (origin_in role.trace (atom_term a)) refl)
      (λ k. let g = given-unique bs u k in record { atom = g.atom; index = g.index; listed = there g.listed; applies = g.applies; same = g.same })
      (in_append (unique_if_below height s (apply_to_atom (as_substitution terms) a) (origin_in role.trace (atom_term a))) (applying_uniques role height terms s bs) j)

  here-unique : (a : AtomTerm) (i : ℕ) → AppliesAt role height a i → IsIn (unique-of a i) (unique_if_below height s (apply_to_atom (as_substitution terms) a) (origin_in role.trace (atom_term a)))
  here-unique a i applies =
      subst (λ o. IsIn (unique-of a i) (unique_if_below height s (apply_to_atom (as_substitution terms) a) o)) (sym (finds_origin role.trace (atom_term a) i applies.0))
      (subst (λ b. IsIn (unique-of a i) (if b then unique-of a i ∷ [] else [])) (sym (lt-ltb i height applies.1)) here)

  applying-unique-in : (stated : List AtomTerm) (a : AtomTerm) (i : ℕ) → IsIn a stated → AppliesAt role height a i → IsIn (unique-of a i) (applying_uniques role height terms s stated)
  applying-unique-in [] a i j applies = elim j [ ]
  applying-unique-in (b ∷ bs) a i here applies = in_append_left (applying_uniques role height terms s bs) (here-unique a i applies)
  applying-unique-in (b ∷ bs) a i (there j) applies =
      in_append_right (unique_if_below height s (apply_to_atom (as_substitution terms) b) (origin_in role.trace (atom_term b))) (applying-unique-in bs a i j applies)

  pub uniques-given : (stated : List AtomTerm) (old : List UniqueAt) → AddsOnce (IsOriginFrom stated role height terms s) old (uniques_onto old (applying_uniques role height terms s stated))
  uniques-given stated old =
      adds-same (λ u. IsIn u (applying_uniques role height terms s stated)) (IsOriginFrom stated role height terms s) old (uniques_onto old (applying_uniques role height terms s stated))
      (given-unique stated) (λ u g. subst (λ w. IsIn w (applying_uniques role height terms s stated)) (sym g.same) (applying-unique-in stated g.atom g.index g.listed g.applies))
      (adds-onto uniques old (applying_uniques role height terms s stated))

-- ---- what an instance gives

pub given-adds : (role : Role) (height : ℕ) (terms : List Binding) (s : ℕ) (old new : Assumptions) → new ≡ with_given_from s (instance role height terms ∷ []) old → AddsGiven role height terms s old new
given-adds role height terms s old new e =
    subst (AddsGiven role height terms s old) (sym e)
    (record {
      non = subst (λ xs. AddsOnce (IsGivenNon role height terms) old.non_originating (atoms_onto old.non_originating xs)) (sym (append-nil (applying role height terms role.non_originating))) (atoms-given role height terms role.non_originating old.non_originating);
      penetrator_non = subst (λ xs. AddsOnce (IsGivenPenetratorNon role height terms) old.penetrator_non_originating (atoms_onto old.penetrator_non_originating xs)) (sym (append-nil (applying role height terms role.penetrator_non_originating))) (atoms-given role height terms role.penetrator_non_originating old.penetrator_non_originating);
      unique = subst (λ us. AddsOnce (IsGivenUnique role height terms s) old.uniquely_originating (uniques_onto old.uniquely_originating us)) (sym (append-nil (applying_uniques role height terms s role.uniquely_originating))) (uniques-given role height terms s role.uniquely_originating old.uniquely_originating);
    })
