-- The unique values of a problem: each has its recorded origin, and all that the strands' roles give are among them.
use Rattle.std.proofs.Common.{◌≡◌, ℕ, zero, suc, ◌+◌, ◌<◌, List, [], ◌∷◌, ◌++◌, Bool, true, false, nat_lt, Option, Some, None, refl, sym, ap, ◌∙◌, subst, arith, if◌then◌else◌, ⊎_elim, ltb-true}
use Rattle.std.proofs.lemmas.Bool.{lt-ltb, cond-true}
use Rattle.cp_lists.specs.Lists.{item_at, IsIn, here, there}
use Rattle.cp_model.specs.Term.{AtomTerm, Term, atom_term, pair_term, enc_term, IsCarriedByTerm, itself_term, in_left_term, in_right_term, in_plaintext_term, variables_of, variables_of_atom, variables_of_key, Substitution, apply_to_atom, apply_to}
use Rattle.cp_model.specs.Bindings.{Binding, as_substitution}
use Rattle.cp_model.specs.Strand.{payload, event_map, OriginatesInTerms, Role, prefix_of, variables_of_trace, AppliesAt}
use Rattle.cp_model.specs.declared.strand.Event.{Event}
use Rattle.cp_model.specs.declared.strand.Event.TheVariants.{Send as send}
use Rattle.cp_model.specs.declared.variable.Declaration.{Declaration}
use Rattle.cp_model.specs.Bundle.{node_at}
use Rattle.cp_model.specs.Skeleton.{SkeletonStrand, instance, listener, skeleton_trace, skeleton_trace_or_none, UniqueAt, Skeleton, IsOrigin}
use Rattle.cp_model.specs.Problem.{variables_of_uniques}
use Rattle.cp_lists.proofs.Members.{in_append, in_append_left, in_append_right}
use Rattle.cp_lists.proofs.Items.{take_of_item, map_of_item}
use Rattle.cp_model.specs.Same.{origin_in}
use Rattle.cp_model.specs.Given.{uniques_onto, unique_if_below, applying_uniques, given_uniques}
use Rattle.cp_language.specs.Problems.{origins_on, origins_from, own_uniques}
use Rattle.cp_model.proofs.Gathered.{onto-only, uniques}
use Rattle.cp_model.proofs.SameTests.{origin_found, finds_origin}
use Rattle.cp_language.proofs.Terms.{AreDeclared, none_declared, both_declared}

-- ---- what a term carries, under a substitution

carried_applied : (s : Substitution) {v t : Term} → IsCarriedByTerm v t → IsCarriedByTerm (apply_to s v) (apply_to s t)
carried_applied s itself_term = itself_term
carried_applied s (in_left_term p) = in_left_term (carried_applied s p)
carried_applied s (in_right_term p) = in_right_term (carried_applied s p)
carried_applied s (in_plaintext_term p) = in_plaintext_term (carried_applied s p)

-- ---- what roles give

-- the value of an instance at its origin
below_there : (height s i : ℕ) (v : AtomTerm) (o : Option ℕ) → o ≡ Some i → i < height → IsIn (record { value = v; origin = node_at s i }) (unique_if_below height s v o)
below_there height s i v None e l = absurd (cc)
below_there height s i v (Some j) e l =
    let p : j ≡ i = cc in
    subst (λ (k : ℕ). IsIn (record { value = v; origin = node_at s i }) (unique_if_below height s v (Some k))) (sym p)
    (subst (λ (us : List UniqueAt). IsIn (record { value = v; origin = node_at s i }) us) (sym (cond-true (nat_lt i height) (record { value = v; origin = node_at s i } ∷ []) [] (lt-ltb i height l))) here)

applying_there : (role : Role) (height : ℕ) (terms : List Binding) (s i : ℕ) (vs : List AtomTerm) (v : AtomTerm) → IsIn v vs → AppliesAt role height v i →
    IsIn (record { value = apply_to_atom (as_substitution terms) v; origin = node_at s i }) (applying_uniques role height terms s vs)
applying_there role height terms s i [] v p a = elim p [ ]
applying_there role height terms s i (w ∷ vs) v here a =
    in_append_left (applying_uniques role height terms s vs) (below_there height s i (apply_to_atom (as_substitution terms) v) (origin_in role.trace (atom_term v)) (finds_origin role.trace (atom_term v) i a.0) a.1)
applying_there role height terms s i (w ∷ vs) v (there p) a =
    in_append_right (unique_if_below height s (apply_to_atom (as_substitution terms) w) (origin_in role.trace (atom_term w))) (applying_there role height terms s i vs v p a)

-- The unique values that a strand's role gives are among those of the strands, the first of which has number n.
pub given_there : (n : ℕ) (ks : List SkeletonStrand) (s : ℕ) (role : Role) (height : ℕ) (terms : List Binding) → item_at ks s ≡ Some (instance role height terms) →
    (v : AtomTerm) (i : ℕ) → IsIn v role.uniquely_originating → AppliesAt role height v i → IsIn (record { value = apply_to_atom (as_substitution terms) v; origin = node_at (n + s) i }) (given_uniques n ks)
given_there n [] s role height terms e v i p a = absurd (cc)
given_there n (k ∷ ks) zero role height terms e v i p a =
    let q : k ≡ instance role height terms = cc in
    let r : n ≡ n + 0 = omega arith in
    subst (λ (m : ℕ). IsIn (record { value = apply_to_atom (as_substitution terms) v; origin = node_at m i }) (given_uniques n (k ∷ ks))) r
    (subst (λ (x : SkeletonStrand). IsIn (record { value = apply_to_atom (as_substitution terms) v; origin = node_at n i }) (given_uniques n (x ∷ ks))) (sym q)
    (in_append_left (given_uniques (suc n) ks) (applying_there role height terms n i role.uniquely_originating v p a)))
given_there n (listener t ∷ ks) (suc s) role height terms e v i p a =
    let r : suc n + s ≡ n + suc s = omega arith in
    subst (λ (m : ℕ). IsIn (record { value = apply_to_atom (as_substitution terms) v; origin = node_at m i }) (given_uniques (suc n) ks)) r (given_there (suc n) ks s role height terms e v i p a)
given_there n (instance r h m ∷ ks) (suc s) role height terms e v i p a =
    let q : suc n + s ≡ n + suc s = omega arith in
    in_append_right (applying_uniques r h m n r.uniquely_originating)
    (subst (λ (j : ℕ). IsIn (record { value = apply_to_atom (as_substitution terms) v; origin = node_at j i }) (given_uniques (suc n) ks)) q (given_there (suc n) ks s role height terms e v i p a))

-- ---- origins

module _ (k : Skeleton) where
  abbrev pub HaveOrigins : List UniqueAt → Type 0
  HaveOrigins us = (u : UniqueAt) → IsIn u us → IsOrigin k u

  pub no_origins : HaveOrigins []
  no_origins u p = elim p [ ]

  one_origin : (u : UniqueAt) → IsOrigin k u → HaveOrigins (u ∷ [])
  one_origin u h w here = h
  one_origin u h w (there p) = elim p [ ]

  both_origins : (us ws : List UniqueAt) → HaveOrigins us → HaveOrigins ws → HaveOrigins (us ++ ws)
  both_origins us ws h j u p = ⊎_elim (h u) (j u) (in_append us ws p)

  pub onto_origins : (before us : List UniqueAt) → HaveOrigins before → HaveOrigins us → HaveOrigins (uniques_onto before us)
  onto_origins before us h j = λ u p. ⊎_elim (h u) (j u) (onto-only uniques before us u p)

  -- the strands of the list are those of the skeleton from number n on
  abbrev pub AreFrom : ℕ → List SkeletonStrand → Type 0
  AreFrom n ks = (i : ℕ) (s : SkeletonStrand) → item_at ks i ≡ Some s → item_at k.strands (n + i) ≡ Some s

  first_from : (n : ℕ) (s : SkeletonStrand) (ks : List SkeletonStrand) → AreFrom n (s ∷ ks) → item_at k.strands n ≡ Some s
  first_from n s ks h = let r : n + 0 ≡ n = omega arith in subst (λ (m : ℕ). item_at k.strands m ≡ Some s) r (h 0 s refl)

  rest_from : (n : ℕ) (s : SkeletonStrand) (ks : List SkeletonStrand) → AreFrom n (s ∷ ks) → AreFrom (suc n) ks
  rest_from n s ks h i x e = let r : n + suc i ≡ suc n + i = omega arith in subst (λ (m : ℕ). item_at k.strands m ≡ Some x) r (h (suc i) x e)

  -- a transmission of an instance that carries a value
  is_origin : (role : Role) (height : ℕ) (terms : List Binding) (v : AtomTerm) (s i : ℕ) (t : Term) → item_at k.strands s ≡ Some (instance role height terms) →
      item_at (skeleton_trace (instance role height terms)) i ≡ Some (send t) → IsCarriedByTerm (atom_term v) t → IsOrigin k (record { value = v; origin = node_at s i })
  is_origin role height terms v s i t on at carried = record {
    role = role;
    height = height;
    terms = terms;
    on_instance = on;
    sent = t;
    transmission = ap (λ (o : Option SkeletonStrand). item_at (skeleton_trace_or_none o) i) on ∙ at;
    carried = carried;
  }

  by_origin : (role : Role) (height : ℕ) (terms : List Binding) (v : AtomTerm) (s : ℕ) (o : Option ℕ) → item_at k.strands s ≡ Some (instance role height terms) →
      origin_in (skeleton_trace (instance role height terms)) (atom_term v) ≡ o → HaveOrigins (origins_on (instance role height terms) s v)
  by_origin role height terms v s None on e u p = let q : IsIn u [] = rw e at p in elim q [ ]
  by_origin role height terms v s (Some i) on e u p =
      let q : IsIn u (record { value = v; origin = node_at s i } ∷ []) = rw e at p in
      let o = origin_found (skeleton_trace (instance role height terms)) (atom_term v) i e in
      one_origin (record { value = v; origin = node_at s i }) (is_origin role height terms v s i o.sent on o.transmission o.carried) u q

  strand_origins : (x : SkeletonStrand) (s : ℕ) (v : AtomTerm) → item_at k.strands s ≡ Some x → HaveOrigins (origins_on x s v)
  strand_origins (listener t) s v on = no_origins
  strand_origins (instance role height terms) s v on = by_origin role height terms v s (origin_in (skeleton_trace (instance role height terms)) (atom_term v)) on refl

  value_origins : (n : ℕ) (ks : List SkeletonStrand) (v : AtomTerm) → AreFrom n ks → HaveOrigins (origins_from n ks v)
  value_origins n [] v h = no_origins
  value_origins n (x ∷ ks) v h = both_origins (origins_on x n v) (origins_from (suc n) ks v) (strand_origins x n v (first_from n x ks h)) (value_origins (suc n) ks v (rest_from n x ks h))

  -- The unique values that a problem states have their origins.
  pub own_origins : (vs : List AtomTerm) → HaveOrigins (own_uniques k.strands vs)
  own_origins [] = no_origins
  own_origins (v ∷ vs) =
      both_origins (origins_from 0 k.strands v) (own_uniques k.strands vs)
      (value_origins 0 k.strands v (λ i s e. let r : i ≡ 0 + i = omega arith in subst (λ (m : ℕ). item_at k.strands m ≡ Some s) r e)) (own_origins vs)

  -- a value that originates in the prefix of a role
  prefix_origin : (role : Role) (height : ℕ) (terms : List Binding) (v : AtomTerm) (s i : ℕ) → item_at k.strands s ≡ Some (instance role height terms) → OriginatesInTerms role.trace (atom_term v) i → i < height →
      IsOrigin k (record { value = apply_to_atom (as_substitution terms) v; origin = node_at s i })
  prefix_origin role height terms v s i on o l =
      is_origin role height terms (apply_to_atom (as_substitution terms) v) s i (apply_to (as_substitution terms) o.sent) on
      (map_of_item (event_map (apply_to (as_substitution terms))) (prefix_of role height) i (send o.sent) (take_of_item height role.trace i (send o.sent) l o.transmission)) (carried_applied (as_substitution terms) o.carried)

  below_origins : (role : Role) (height : ℕ) (terms : List Binding) (v : AtomTerm) (s i : ℕ) (b : Bool) → item_at k.strands s ≡ Some (instance role height terms) → OriginatesInTerms role.trace (atom_term v) i →
      nat_lt i height ≡ b → HaveOrigins (if b then record { value = apply_to_atom (as_substitution terms) v; origin = node_at s i } ∷ [] else [])
  below_origins role height terms v s i false on o e = no_origins
  below_origins role height terms v s i true on o e = one_origin (record { value = apply_to_atom (as_substitution terms) v; origin = node_at s i }) (prefix_origin role height terms v s i on o (ltb-true i height e))

  option_origins : (role : Role) (height : ℕ) (terms : List Binding) (v : AtomTerm) (s : ℕ) (o : Option ℕ) → item_at k.strands s ≡ Some (instance role height terms) → origin_in role.trace (atom_term v) ≡ o →
      HaveOrigins (unique_if_below height s (apply_to_atom (as_substitution terms) v) o)
  option_origins role height terms v s None on e = no_origins
  option_origins role height terms v s (Some i) on e = below_origins role height terms v s i (nat_lt i height) on (origin_found role.trace (atom_term v) i e) refl

  applying_origins : (role : Role) (height : ℕ) (terms : List Binding) (s : ℕ) (vs : List AtomTerm) → item_at k.strands s ≡ Some (instance role height terms) → HaveOrigins (applying_uniques role height terms s vs)
  applying_origins role height terms s [] on = no_origins
  applying_origins role height terms s (v ∷ vs) on =
      both_origins (unique_if_below height s (apply_to_atom (as_substitution terms) v) (origin_in role.trace (atom_term v))) (applying_uniques role height terms s vs)
      (option_origins role height terms v s (origin_in role.trace (atom_term v)) on refl) (applying_origins role height terms s vs on)

  strands_origins : (n : ℕ) (ks : List SkeletonStrand) → AreFrom n ks → HaveOrigins (given_uniques n ks)
  strands_origins n [] h = no_origins
  strands_origins n (listener t ∷ ks) h = strands_origins (suc n) ks (rest_from n (listener t) ks h)
  strands_origins n (instance role height terms ∷ ks) h =
      both_origins (applying_uniques role height terms n role.uniquely_originating) (given_uniques (suc n) ks)
      (applying_origins role height terms n role.uniquely_originating (first_from n (instance role height terms) ks h)) (strands_origins (suc n) ks (rest_from n (instance role height terms) ks h))

  -- The unique values that the strands' roles give have their origins.
  pub given_origins : HaveOrigins (given_uniques 0 k.strands)
  given_origins = strands_origins 0 k.strands (λ i s e. let r : i ≡ 0 + i = omega arith in subst (λ (m : ℕ). item_at k.strands m ≡ Some s) r e)

-- ---- their variables

-- what a declared term carries is declared
carried_declared : (ds : List Declaration) (v t : Term) → IsCarriedByTerm v t → AreDeclared ds (variables_of t) → AreDeclared ds (variables_of v)
carried_declared ds v t itself_term h = h
carried_declared ds v (pair_term a b) (in_left_term p) h = carried_declared ds v a p (λ x i. h x (in_append_left (variables_of b) i))
carried_declared ds v (pair_term a b) (in_right_term p) h = carried_declared ds v b p (λ x i. h x (in_append_right (variables_of a) i))
carried_declared ds v (enc_term a k) (in_plaintext_term p) h = carried_declared ds v a p (λ x i. h x (in_append_left (variables_of_key k) i))

event_declared : (ds : List Declaration) (es : List (Event Term)) (i : ℕ) (e : Event Term) → item_at es i ≡ Some e → AreDeclared ds (variables_of_trace es) → AreDeclared ds (variables_of (payload e))
event_declared ds [] i e at h = absurd (cc)
event_declared ds (c ∷ es) zero e at h =
    let p : c ≡ e = cc in subst (λ (x : Event Term). AreDeclared ds (variables_of (payload x))) p (λ x i. h x (in_append_left (variables_of_trace es) i))
event_declared ds (c ∷ es) (suc i) e at h = event_declared ds es i e at (λ x j. h x (in_append_right (variables_of (payload c)) j))

-- Values with origins on strands over declared variables have declared variables.
pub uniques_declared : (k : Skeleton) (ds : List Declaration) → ((n : ℕ) (s : SkeletonStrand) → item_at k.strands n ≡ Some s → AreDeclared ds (variables_of_trace (skeleton_trace s))) →
    (us : List UniqueAt) → HaveOrigins k us → AreDeclared ds (variables_of_uniques us)
uniques_declared k ds strands [] h = none_declared ds
uniques_declared k ds strands (u ∷ us) h =
    let o = h u here in
    let at : item_at (skeleton_trace (instance o.role o.height o.terms)) u.origin.index ≡ Some (send o.sent) =
    sym (ap (λ (x : Option SkeletonStrand). item_at (skeleton_trace_or_none x) u.origin.index) o.on_instance) ∙ o.transmission in
    both_declared ds (variables_of_atom u.value) (variables_of_uniques us)
    (carried_declared ds (atom_term u.value) o.sent o.carried
    (event_declared ds (skeleton_trace (instance o.role o.height o.terms)) u.origin.index (send o.sent) at (strands u.origin.strand (instance o.role o.height o.terms) o.on_instance)))
    (uniques_declared k ds strands us (λ w p. h w (there p)))
