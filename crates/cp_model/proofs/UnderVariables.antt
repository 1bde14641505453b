-- The variables of terms under substitutions, and of what terms carry.
use Rattle.std.proofs.Common.{ℕ, List, [], ◌∷◌, map, ⊎_elim}
use Rattle.cp_lists.specs.Lists.{IsIn, here, there}
use Rattle.cp_model.specs.Term.{name_sort, skey_sort, akey_sort, text_sort, datum_sort, Variable, SymmetricTerm, skey_variable, ltk_term, akey_variable, pubk_term, KeyTerm, symmetric_term, asymmetric_term, AtomTerm, text_variable, datum_variable, name_variable, key_term, variable_term, Term, tag_term, atom_term, pair_term, enc_term, variables_of_symmetric, variables_of_key, variables_of_atom, variables_of, IsCarriedByTerm, itself_term, in_left_term, in_right_term, in_plaintext_term, Substitution, apply_to_symmetric, apply_to_key, apply_to_atom, apply_to}
use Rattle.cp_model.specs.Strand.{Event, send, recv, payload, event_map, Role, prefix_of, variables_of_trace, Applies, AppliesAt}
use Rattle.cp_lists.proofs.Members.{in_append, in_append_left, in_append_right}
use Rattle.cp_lists.proofs.Items.{take_of_item}
use Rattle.cp_model.proofs.LawPrefixes.{in_trace as in_events}

-- What holds of the variables of what a substitution gives the variables of a term holds of those of the term under it.
module _ (P : Variable → Type 0) (s : Substitution) where
  abbrev Gives : Variable → Type 0
  Gives x = (y : Variable) → IsIn y (variables_of (apply_to s (variable_term x))) → P y

  abbrev AllGive : List Variable → Type 0
  AllGive xs = (x : Variable) → IsIn x xs → Gives x

  of_symmetric : (k : SymmetricTerm) → AllGive (variables_of_symmetric k) → (y : Variable) → IsIn y (variables_of_symmetric (apply_to_symmetric s k)) → P y
  of_symmetric (skey_variable n) h y i = h (record { sort = skey_sort; number = n }) here y i
  of_symmetric (ltk_term a b) h y here = h (record { sort = name_sort; number = a }) here (record { sort = name_sort; number = s.names a }) here
  of_symmetric (ltk_term a b) h y (there here) = h (record { sort = name_sort; number = b }) (there here) (record { sort = name_sort; number = s.names b }) here
  of_symmetric (ltk_term a b) h y (there (there i)) = elim i [ ]

  of_key : (k : KeyTerm) → AllGive (variables_of_key k) → (y : Variable) → IsIn y (variables_of_key (apply_to_key s k)) → P y
  of_key (symmetric_term k) h y i = of_symmetric k h y i
  of_key (asymmetric_term flag (akey_variable n)) h y i = h (record { sort = akey_sort; number = n }) here y i
  of_key (asymmetric_term flag (pubk_term purpose a)) h y i = h (record { sort = name_sort; number = a }) here y i

  pub of_atom : (v : AtomTerm) → AllGive (variables_of_atom v) → (y : Variable) → IsIn y (variables_of_atom (apply_to_atom s v)) → P y
  of_atom (text_variable n) h y i = h (record { sort = text_sort; number = n }) here y i
  of_atom (datum_variable n) h y i = h (record { sort = datum_sort; number = n }) here y i
  of_atom (name_variable n) h y i = h (record { sort = name_sort; number = n }) here y i
  of_atom (key_term k) h y i = of_key k h y i

  of_term : (t : Term) → AllGive (variables_of t) → (y : Variable) → IsIn y (variables_of (apply_to s t)) → P y
  of_term (tag_term bytes) h y i = elim i [ ]
  of_term (atom_term v) h y i = of_atom v h y i
  of_term (pair_term t u) h y i =
      ⊎_elim (λ j. of_term t (λ x m. h x (in_append_left (variables_of u) m)) y j) (λ j. of_term u (λ x m. h x (in_append_right (variables_of t) m)) y j) (in_append (variables_of (apply_to s t)) (variables_of (apply_to s u)) i)
  of_term (enc_term t k) h y i =
      ⊎_elim (λ j. of_term t (λ x m. h x (in_append_left (variables_of_key k) m)) y j) (λ j. of_key k (λ x m. h x (in_append_right (variables_of t) m)) y j)
      (in_append (variables_of (apply_to s t)) (variables_of_key (apply_to_key s k)) i)

  of_event : (e : Event Term) → AllGive (variables_of (payload e)) → (y : Variable) → IsIn y (variables_of (payload (event_map (apply_to s) e))) → P y
  of_event (send t) h y i = of_term t h y i
  of_event (recv t) h y i = of_term t h y i

  pub of_trace : (es : List (Event Term)) → AllGive (variables_of_trace es) → (y : Variable) → IsIn y (variables_of_trace (map (event_map (apply_to s)) es)) → P y
  of_trace [] h y i = elim i [ ]
  of_trace (e ∷ es) h y i =
      ⊎_elim (λ j. of_event e (λ x m. h x (in_append_left (variables_of_trace es) m)) y j) (λ j. of_trace es (λ x m. h x (in_append_right (variables_of (payload e)) m)) y j)
      (in_append (variables_of (payload (event_map (apply_to s) e))) (variables_of_trace (map (event_map (apply_to s)) es)) i)

-- The variables of what a term carries occur in the term.
pub carried_variables : {v t : Term} → IsCarriedByTerm v t → (x : Variable) → IsIn x (variables_of v) → IsIn x (variables_of t)
carried_variables itself_term x i = i
carried_variables (in_left_term {b = b} p) x i = in_append_left (variables_of b) (carried_variables p x i)
carried_variables (in_right_term {a = a} p) x i = in_append_right (variables_of a) (carried_variables p x i)
carried_variables (in_plaintext_term {k = k} p) x i = in_append_left (variables_of_key k) (carried_variables p x i)

-- An assumption of unique origination that applies has its variables in the prefix.
pub applies_at : (role : Role) (height : ℕ) (v : AtomTerm) (i : ℕ) → AppliesAt role height v i → Applies role height v
applies_at role height v i a x j = in_events (prefix_of role height) i (send a.0.sent) x (take_of_item height role.trace i (send a.0.sent) a.1 a.0.transmission) (carried_variables a.0.carried x j)
