-- Where variables occur: what a substitution gives a term's variables occurs in the term under it, and what occurs in one of
-- several strands, values or terms occurs in their list.
use Rattle.std.proofs.Common.{◌≡◌, ℕ, zero, suc, Bool, List, [], ◌∷◌, Some, map, refl, subst, ⊎_elim}
use Rattle.cp_lists.specs.Lists.{item_at, IsIn, here, there}
use Rattle.cp_lists.proofs.Members.{in_append, in_append_left, in_append_right}
use Rattle.cp_model.specs.Term.{Variable, SymmetricTerm, skey_variable, ltk_term, PairTerm, akey_variable, pubk_term, KeyTerm, symmetric_term, asymmetric_term, AtomTerm, text_variable, datum_variable, name_variable, key_term, variable_term, Term, tag_term, atom_term, pair_term, enc_term, name_sort, variables_of_symmetric, variables_of_pair, variables_of_key, variables_of_atom, variables_of, Substitution, apply_to_key, apply_to_atom, apply_to}
use Rattle.cp_model.specs.Strand.{Event, send, recv, payload, event_map, variables_of_trace}
use Rattle.cp_model.specs.Skeleton.{SkeletonStrand, skeleton_trace, UniqueAt}
use Rattle.cp_model.specs.Problem.{variables_of_strands, variables_of_atoms, variables_of_terms, variables_of_uniques}

-- The variables of the terms of a term's variables occur in the term under the substitution.
in_symmetric : (s : Substitution) (k : SymmetricTerm) (x y : Variable) → IsIn x (variables_of_symmetric k) → IsIn y (variables_of (apply_to s (variable_term x))) → IsIn y (variables_of_key (apply_to_key s (symmetric_term k)))
in_symmetric s (skey_variable n) x y here q = q
in_symmetric s (skey_variable n) x y (there p) q = elim p [ ]
in_symmetric s (ltk_term a b) x y here q = in_append_left (record { sort = name_sort; number = s.names b } ∷ []) q
in_symmetric s (ltk_term a b) x y (there here) q = there q
in_symmetric s (ltk_term a b) x y (there (there p)) q = elim p [ ]

in_pair : (s : Substitution) (flag : Bool) (k : PairTerm) (x y : Variable) → IsIn x (variables_of_pair k) → IsIn y (variables_of (apply_to s (variable_term x))) → IsIn y (variables_of_key (apply_to_key s (asymmetric_term flag k)))
in_pair s flag (akey_variable n) x y here q = q
in_pair s flag (akey_variable n) x y (there p) q = elim p [ ]
in_pair s flag (pubk_term purpose a) x y here q = q
in_pair s flag (pubk_term purpose a) x y (there p) q = elim p [ ]

in_key : (s : Substitution) (k : KeyTerm) (x y : Variable) → IsIn x (variables_of_key k) → IsIn y (variables_of (apply_to s (variable_term x))) → IsIn y (variables_of_key (apply_to_key s k))
in_key s (symmetric_term k) x y p q = in_symmetric s k x y p q
in_key s (asymmetric_term flag k) x y p q = in_pair s flag k x y p q

in_atom : (s : Substitution) (v : AtomTerm) (x y : Variable) → IsIn x (variables_of_atom v) → IsIn y (variables_of (apply_to s (variable_term x))) → IsIn y (variables_of_atom (apply_to_atom s v))
in_atom s (text_variable n) x y here q = q
in_atom s (text_variable n) x y (there p) q = elim p [ ]
in_atom s (datum_variable n) x y here q = q
in_atom s (datum_variable n) x y (there p) q = elim p [ ]
in_atom s (name_variable n) x y here q = q
in_atom s (name_variable n) x y (there p) q = elim p [ ]
in_atom s (key_term k) x y p q = in_key s k x y p q

in_term : (s : Substitution) (t : Term) (x y : Variable) → IsIn x (variables_of t) → IsIn y (variables_of (apply_to s (variable_term x))) → IsIn y (variables_of (apply_to s t))
in_term s (tag_term bytes) x y p q = elim p [ ]
in_term s (atom_term v) x y p q = in_atom s v x y p q
in_term s (pair_term t u) x y p q =
    ⊎_elim (λ l. in_append_left (variables_of (apply_to s u)) (in_term s t x y l q)) (λ r. in_append_right (variables_of (apply_to s t)) (in_term s u x y r q)) (in_append (variables_of t) (variables_of u) p)
in_term s (enc_term t k) x y p q =
    ⊎_elim (λ l. in_append_left (variables_of_key (apply_to_key s k)) (in_term s t x y l q)) (λ r. in_append_right (variables_of (apply_to s t)) (in_key s k x y r q)) (in_append (variables_of t) (variables_of_key k) p)

in_event : (s : Substitution) (e : Event Term) (x y : Variable) → IsIn x (variables_of (payload e)) → IsIn y (variables_of (apply_to s (variable_term x))) → IsIn y (variables_of (payload (event_map (apply_to s) e)))
in_event s (send t) x y p q = in_term s t x y p q
in_event s (recv t) x y p q = in_term s t x y p q

pub in_trace_under : (s : Substitution) (es : List (Event Term)) (x y : Variable) → IsIn x (variables_of_trace es) → IsIn y (variables_of (apply_to s (variable_term x))) → IsIn y (variables_of_trace (map (event_map (apply_to s)) es))
in_trace_under s [] x y p q = elim p [ ]
in_trace_under s (e ∷ es) x y p q =
    ⊎_elim (λ l. in_append_left (variables_of_trace (map (event_map (apply_to s)) es)) (in_event s e x y l q)) (λ r. in_append_right (variables_of (payload (event_map (apply_to s) e))) (in_trace_under s es x y r q))
    (in_append (variables_of (payload e)) (variables_of_trace es) p)

-- ---- lists

-- What occurs in an item of a list occurs in the list.
pub in_strands : (ss : List SkeletonStrand) (n : ℕ) (st : SkeletonStrand) (x : Variable) → item_at ss n ≡ Some st → IsIn x (variables_of_trace (skeleton_trace st)) → IsIn x (variables_of_strands ss)
in_strands [] n st x at i = absurd (cc)
in_strands (d ∷ ss) zero st x at i = let same : st ≡ d = cc in in_append_left (variables_of_strands ss) (subst (λ (z : SkeletonStrand). IsIn x (variables_of_trace (skeleton_trace z))) same i)
in_strands (d ∷ ss) (suc n) st x at i = in_append_right (variables_of_trace (skeleton_trace d)) (in_strands ss n st x at i)

pub in_atoms : (vs : List AtomTerm) (v : AtomTerm) (x : Variable) → IsIn v vs → IsIn x (variables_of_atom v) → IsIn x (variables_of_atoms vs)
in_atoms (w ∷ vs) v x here i = in_append_left (variables_of_atoms vs) i
in_atoms (w ∷ vs) v x (there m) i = in_append_right (variables_of_atom w) (in_atoms vs v x m i)
in_atoms [] v x m i = elim m [ ]

pub in_uniques : (us : List UniqueAt) (u : UniqueAt) (x : Variable) → IsIn u us → IsIn x (variables_of_atom u.value) → IsIn x (variables_of_uniques us)
in_uniques (w ∷ us) u x here i = in_append_left (variables_of_uniques us) i
in_uniques (w ∷ us) u x (there m) i = in_append_right (variables_of_atom w.value) (in_uniques us u x m i)
in_uniques [] u x m i = elim m [ ]

pub in_terms : (ts : List Term) (t : Term) (x : Variable) → IsIn t ts → IsIn x (variables_of t) → IsIn x (variables_of_terms ts)
in_terms (u ∷ ts) t x here i = in_append_left (variables_of_terms ts) i
in_terms (u ∷ ts) t x (there m) i = in_append_right (variables_of u) (in_terms ts t x m i)
in_terms [] t x m i = elim m [ ]

-- What occurs in a list occurs in one of its items.
pub strand_with : (ss : List SkeletonStrand) (x : Variable) → IsIn x (variables_of_strands ss) → (n : ℕ) × (st : SkeletonStrand) × (item_at ss n ≡ Some st) × IsIn x (variables_of_trace (skeleton_trace st))
strand_with [] x i = elim i [ ]
strand_with (st ∷ ss) x i =
    ⊎_elim (λ j. (0, st, refl, j)) (λ j. let r = strand_with ss x j in (suc r.0, r.1, r.2, r.3)) (in_append (variables_of_trace (skeleton_trace st)) (variables_of_strands ss) i)

pub atom_with : (vs : List AtomTerm) (x : Variable) → IsIn x (variables_of_atoms vs) → (v : AtomTerm) × IsIn v vs × IsIn x (variables_of_atom v)
atom_with [] x i = elim i [ ]
atom_with (v ∷ vs) x i = ⊎_elim (λ j. (v, here, j)) (λ j. let r = atom_with vs x j in (r.0, there r.1, r.2)) (in_append (variables_of_atom v) (variables_of_atoms vs) i)

pub unique_with : (us : List UniqueAt) (x : Variable) → IsIn x (variables_of_uniques us) → (u : UniqueAt) × IsIn u us × IsIn x (variables_of_atom u.value)
unique_with [] x i = elim i [ ]
unique_with (u ∷ us) x i = ⊎_elim (λ j. (u, here, j)) (λ j. let r = unique_with us x j in (r.0, there r.1, r.2)) (in_append (variables_of_atom u.value) (variables_of_uniques us) i)

pub term_with : (ts : List Term) (x : Variable) → IsIn x (variables_of_terms ts) → (t : Term) × IsIn t ts × IsIn x (variables_of t)
term_with [] x i = elim i [ ]
term_with (t ∷ ts) x i = ⊎_elim (λ j. (t, here, j)) (λ j. let r = term_with ts x j in (r.0, there r.1, r.2)) (in_append (variables_of t) (variables_of_terms ts) i)
