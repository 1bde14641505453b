-- The tests on texts, atoms and terms are exact: they hold where the values are equal, and nowhere else.
use Rattle.std.proofs.Common.{◌≡◌, ℕ, zero, suc, ◌<◌, List, [], ◌∷◌, Bool, true, false, ◌&&◌, ◌||◌, ◌==◌, Option, Some, None, refl, sym, ap, ap₂, ◌∙◌, subst, arith, eq-eqb, eqb-true, ⊎_elim, if◌then◌else◌}
use Rattle.std.proofs.lemmas.Bool.{and_parts, and_from, or_cases, or_left, or_right, both_ways, false_from_ne_true, cond-true, cond-false}
use Rattle.cp_lists.specs.Lists.{item_at, IsIn, here, there}
use Rattle.cp_model.specs.Term.{Sort, text_sort, datum_sort, name_sort, skey_sort, akey_sort, Variable, SymmetricTerm, skey_variable, ltk_term, PairTerm, akey_variable, pubk_term, KeyTerm, symmetric_term, asymmetric_term, AtomTerm, text_variable, datum_variable, name_variable, key_term, Term, tag_term, atom_term, pair_term, enc_term, IsCarriedByTerm, itself_term, in_left_term, in_right_term, in_plaintext_term}
use Rattle.cp_model.specs.Strand.{Event, send, recv, payload, OriginatesInTerms}
use Rattle.cp_model.specs.declared.node.Node.{Node}
use Rattle.cp_model.specs.Same.{same_text, same_bool, same_sort, same_purpose, same_symmetric, same_pair, same_key, same_atom, same_term, same_node, carries, one_later, origin_in, has_variable, has_variables}

-- ---- from a test to equality

pub text_is : (s t : List ℕ) → same_text s t ≡ true → s ≡ t
text_is [] [] e = refl
text_is [] (y ∷ ys) e = absurd (cc)
text_is (x ∷ xs) [] e = absurd (cc)
text_is (x ∷ xs) (y ∷ ys) e =
    let p = and_parts (x == y) (same_text xs ys) e in
    ap₂ (λ (z : ℕ) (zs : List ℕ). z ∷ zs) (eqb-true x y p.0) (text_is xs ys p.1)

pub bool_is : (a b : Bool) → same_bool a b ≡ true → a ≡ b
bool_is true true e = refl
bool_is true false e = absurd (cc)
bool_is false true e = absurd (cc)
bool_is false false e = refl

pub sort_is : (s t : Sort) → same_sort s t ≡ true → s ≡ t
sort_is text_sort text_sort e = refl
sort_is datum_sort datum_sort e = refl
sort_is name_sort name_sort e = refl
sort_is skey_sort skey_sort e = refl
sort_is akey_sort akey_sort e = refl
sort_is _ _ e = absurd (cc)

pub purpose_is : (p q : Option (List ℕ)) → same_purpose p q ≡ true → p ≡ q
purpose_is None None e = refl
purpose_is None (Some t) e = absurd (cc)
purpose_is (Some s) None e = absurd (cc)
purpose_is (Some s) (Some t) e = ap (λ (x : List ℕ). Some x) (text_is s t e)

pub symmetric_is : (j k : SymmetricTerm) → same_symmetric j k ≡ true → j ≡ k
symmetric_is (skey_variable m) (skey_variable n) e = ap skey_variable (eqb-true m n e)
symmetric_is (skey_variable m) (ltk_term c d) e = absurd (cc)
symmetric_is (ltk_term a b) (skey_variable n) e = absurd (cc)
symmetric_is (ltk_term a b) (ltk_term c d) e = let p = and_parts (a == c) (b == d) e in ap₂ ltk_term (eqb-true a c p.0) (eqb-true b d p.1)

pub pair_is : (j k : PairTerm) → same_pair j k ≡ true → j ≡ k
pair_is (akey_variable m) (akey_variable n) e = ap akey_variable (eqb-true m n e)
pair_is (akey_variable m) (pubk_term p a) e = absurd (cc)
pair_is (pubk_term p a) (akey_variable n) e = absurd (cc)
pair_is (pubk_term p a) (pubk_term q b) e = let h = and_parts (same_purpose p q) (a == b) e in ap₂ pubk_term (purpose_is p q h.0) (eqb-true a b h.1)

pub key_is : (j k : KeyTerm) → same_key j k ≡ true → j ≡ k
key_is (symmetric_term j) (symmetric_term k) e = ap symmetric_term (symmetric_is j k e)
key_is (symmetric_term j) (asymmetric_term f k) e = absurd (cc)
key_is (asymmetric_term f j) (symmetric_term k) e = absurd (cc)
key_is (asymmetric_term f j) (asymmetric_term g k) e = let h = and_parts (same_bool f g) (same_pair j k) e in ap₂ asymmetric_term (bool_is f g h.0) (pair_is j k h.1)

pub atom_is : (a b : AtomTerm) → same_atom a b ≡ true → a ≡ b
atom_is (text_variable m) (text_variable n) e = ap text_variable (eqb-true m n e)
atom_is (datum_variable m) (datum_variable n) e = ap datum_variable (eqb-true m n e)
atom_is (name_variable m) (name_variable n) e = ap name_variable (eqb-true m n e)
atom_is (key_term j) (key_term k) e = ap key_term (key_is j k e)
atom_is _ _ e = absurd (cc)

pub term_is : (t u : Term) → same_term t u ≡ true → t ≡ u
term_is (tag_term s) (tag_term t) e = ap tag_term (text_is s t e)
term_is (atom_term a) (atom_term b) e = ap atom_term (atom_is a b e)
term_is (pair_term a b) (pair_term c d) e = let h = and_parts (same_term a c) (same_term b d) e in ap₂ pair_term (term_is a c h.0) (term_is b d h.1)
term_is (enc_term a j) (enc_term b k) e = let h = and_parts (same_term a b) (same_key j k) e in ap₂ enc_term (term_is a b h.0) (key_is j k h.1)
term_is _ _ e = absurd (cc)

-- ---- a value is the same as itself

pub same_text_itself : (t : List ℕ) → same_text t t ≡ true
same_text_itself [] = refl
same_text_itself (x ∷ xs) = and_from (x == x) (same_text xs xs) (eq-eqb x x refl) (same_text_itself xs)

pub same_bool_itself : (b : Bool) → same_bool b b ≡ true
same_bool_itself true = refl
same_bool_itself false = refl

pub same_sort_itself : (s : Sort) → same_sort s s ≡ true
same_sort_itself text_sort = refl
same_sort_itself datum_sort = refl
same_sort_itself name_sort = refl
same_sort_itself skey_sort = refl
same_sort_itself akey_sort = refl

pub same_purpose_itself : (p : Option (List ℕ)) → same_purpose p p ≡ true
same_purpose_itself None = refl
same_purpose_itself (Some t) = same_text_itself t

pub same_symmetric_itself : (k : SymmetricTerm) → same_symmetric k k ≡ true
same_symmetric_itself (skey_variable n) = eq-eqb n n refl
same_symmetric_itself (ltk_term a b) = and_from (a == a) (b == b) (eq-eqb a a refl) (eq-eqb b b refl)

pub same_pair_itself : (k : PairTerm) → same_pair k k ≡ true
same_pair_itself (akey_variable n) = eq-eqb n n refl
same_pair_itself (pubk_term p a) = and_from (same_purpose p p) (a == a) (same_purpose_itself p) (eq-eqb a a refl)

pub same_key_itself : (k : KeyTerm) → same_key k k ≡ true
same_key_itself (symmetric_term k) = same_symmetric_itself k
same_key_itself (asymmetric_term f k) = and_from (same_bool f f) (same_pair k k) (same_bool_itself f) (same_pair_itself k)

pub same_atom_itself : (a : AtomTerm) → same_atom a a ≡ true
same_atom_itself (text_variable n) = eq-eqb n n refl
same_atom_itself (datum_variable n) = eq-eqb n n refl
same_atom_itself (name_variable n) = eq-eqb n n refl
same_atom_itself (key_term k) = same_key_itself k

pub same_term_itself : (t : Term) → same_term t t ≡ true
same_term_itself (tag_term t) = same_text_itself t
same_term_itself (atom_term a) = same_atom_itself a
same_term_itself (pair_term a b) = and_from (same_term a a) (same_term b b) (same_term_itself a) (same_term_itself b)
same_term_itself (enc_term a k) = and_from (same_term a a) (same_key k k) (same_term_itself a) (same_key_itself k)

-- ---- from equality to the test

pub is_text : (s t : List ℕ) → s ≡ t → same_text s t ≡ true
is_text s t e = subst (λ u. same_text s u ≡ true) e (same_text_itself s)

pub is_atom : (a b : AtomTerm) → a ≡ b → same_atom a b ≡ true
is_atom a b e = subst (λ u. same_atom a u ≡ true) e (same_atom_itself a)

pub is_term : (t u : Term) → t ≡ u → same_term t u ≡ true
is_term t u e = subst (λ x. same_term t x ≡ true) e (same_term_itself t)

pub other_text : (s t : List ℕ) → same_text s t ≡ false → s ≡ t → ⊥
other_text s t differs e = both_ways (same_text s t) differs (is_text s t e)

pub node_is : (m n : Node) → same_node m n ≡ true → m ≡ n
node_is m n e =
    let h = and_parts (m.strand == n.strand) (m.index == n.index) e in
    ap₂ (λ (s i : ℕ). record { strand = s; index = i }) (eqb-true m.strand n.strand h.0) (eqb-true m.index n.index h.1)

pub is_node : (m n : Node) → m ≡ n → same_node m n ≡ true
is_node m n e = subst (λ x. same_node m x ≡ true) e (and_from (m.strand == m.strand) (m.index == m.index) (eq-eqb m.strand m.strand refl) (eq-eqb m.index m.index refl))

-- ---- what a term carries

carried_itself : (t v : Term) → same_term t v ≡ true → IsCarriedByTerm v t
carried_itself t v e = subst (λ u. IsCarriedByTerm u t) (term_is t v e) itself_term

pub carried : (t v : Term) → carries t v ≡ true → IsCarriedByTerm v t
carried (tag_term t) v e = carried_itself (tag_term t) v e
carried (atom_term a) v e = carried_itself (atom_term a) v e
carried (pair_term a b) v e =
    ⊎_elim (carried_itself (pair_term a b) v)
    (λ p. ⊎_elim (λ q. in_left_term (carried a v q)) (λ q. in_right_term (carried b v q)) (or_cases (carries a v) (carries b v) p))
    (or_cases (same_term (pair_term a b) v) (carries a v || carries b v) e)
carried (enc_term a k) v e = ⊎_elim (carried_itself (enc_term a k) v) (λ p. in_plaintext_term (carried a v p)) (or_cases (same_term (enc_term a k) v) (carries a v) e)

pub carries_itself : (t : Term) → carries t t ≡ true
carries_itself (tag_term t) = same_text_itself t
carries_itself (atom_term a) = same_atom_itself a
carries_itself (pair_term a b) = or_left (same_term (pair_term a b) (pair_term a b)) (carries a (pair_term a b) || carries b (pair_term a b)) (same_term_itself (pair_term a b))
carries_itself (enc_term a k) = or_left (same_term (enc_term a k) (enc_term a k)) (carries a (enc_term a k)) (same_term_itself (enc_term a k))

pub is_carried : (v t : Term) → IsCarriedByTerm v t → carries t v ≡ true
is_carried v t itself_term = carries_itself v
is_carried v (pair_term a b) (in_left_term p) = or_right (same_term (pair_term a b) v) (carries a v || carries b v) (or_left (carries a v) (carries b v) (is_carried v a p))
is_carried v (pair_term a b) (in_right_term p) = or_right (same_term (pair_term a b) v) (carries a v || carries b v) (or_right (carries a v) (carries b v) (is_carried v b p))
is_carried v (enc_term a k) (in_plaintext_term p) = or_right (same_term (enc_term a k) v) (carries a v) (is_carried v a p)

-- ---- where a term originates

-- no event at or before this one carries it, and it originates in the rest
later_first : (e : Event Term) (es : List (Event Term)) (v : Term) (i : ℕ) → carries (payload e) v ≡ false → OriginatesInTerms es v i →
    (j : ℕ) (e' : Event Term) → j < suc i → item_at (e ∷ es) j ≡ Some e' → IsCarriedByTerm v (payload e') → ⊥
later_first e es v i not_here o zero e' below at c =
    let p : e ≡ e' = cc in
    both_ways (carries (payload e) v) not_here (subst (λ (x : Event Term). carries (payload x) v ≡ true) (sym p) (is_carried v (payload e') c))
later_first e es v i not_here o (suc j) e' below at c = o.first j e' (omega arith) at c

later_origin : (e : Event Term) (es : List (Event Term)) (v : Term) (i : ℕ) → carries (payload e) v ≡ false → OriginatesInTerms es v i → OriginatesInTerms (e ∷ es) v (suc i)
later_origin e es v i not_here o = record { sent = o.sent; transmission = o.transmission; carried = o.carried; first = later_first e es v i not_here o }

one_later_is : (o : Option ℕ) (i : ℕ) → one_later o ≡ Some i → (k : ℕ) × (o ≡ Some k) × (suc k ≡ i)
one_later_is None i e = absurd (cc)
one_later_is (Some k) i e = (k, refl, cc)

found_later : (e : Event Term) (es : List (Event Term)) (v : Term) (i : ℕ) → ((k : ℕ) → origin_in es v ≡ Some k → OriginatesInTerms es v k) →
    carries (payload e) v ≡ false → one_later (origin_in es v) ≡ Some i → OriginatesInTerms (e ∷ es) v i
found_later e es v i rest not_here at =
    let k = one_later_is (origin_in es v) i at in
    subst (λ n. OriginatesInTerms (e ∷ es) v n) k.2 (later_origin e es v k.0 not_here (rest k.0 k.1))

found_sent : (m : Term) (es : List (Event Term)) (v : Term) (i : ℕ) → ((k : ℕ) → origin_in es v ≡ Some k → OriginatesInTerms es v k) →
    (b : Bool) → carries m v ≡ b → (if b then Some 0 else one_later (origin_in es v)) ≡ Some i → OriginatesInTerms (send m ∷ es) v i
found_sent m es v i rest true c at =
    let p : 0 ≡ i = cc in
    subst (λ n. OriginatesInTerms (send m ∷ es) v n) p (record { sent = m; transmission = refl; carried = carried m v c; first = λ j e below. absurd (omega arith) })
found_sent m es v i rest false c at = found_later (send m) es v i rest c at

found_received : (m : Term) (es : List (Event Term)) (v : Term) (i : ℕ) → ((k : ℕ) → origin_in es v ≡ Some k → OriginatesInTerms es v k) →
    (b : Bool) → carries m v ≡ b → (if b then None else one_later (origin_in es v)) ≡ Some i → OriginatesInTerms (recv m ∷ es) v i
found_received m es v i rest true c at = absurd (cc)
found_received m es v i rest false c at = found_later (recv m) es v i rest c at

-- The place that is found is an origin.
pub origin_found : (es : List (Event Term)) (v : Term) (i : ℕ) → origin_in es v ≡ Some i → OriginatesInTerms es v i
origin_found [] v i e = absurd (cc)
origin_found (send m ∷ es) v i e = found_sent m es v i (origin_found es v) (carries m v) refl e
origin_found (recv m ∷ es) v i e = found_received m es v i (origin_found es v) (carries m v) refl e

-- where it originates later, the first event does not carry it
not_carried_first : (e : Event Term) (es : List (Event Term)) (v : Term) (i : ℕ) → OriginatesInTerms (e ∷ es) v (suc i) → carries (payload e) v ≡ false
not_carried_first e es v i o = false_from_ne_true (carries (payload e) v) (λ c. o.first 0 e (omega arith) refl (carried (payload e) v c))

origin_in_rest : (e : Event Term) (es : List (Event Term)) (v : Term) (i : ℕ) → OriginatesInTerms (e ∷ es) v (suc i) → OriginatesInTerms es v i
origin_in_rest e es v i o = record { sent = o.sent; transmission = o.transmission; carried = o.carried; first = λ j e' below. o.first (suc j) e' (omega arith) }

-- An origin is found.
pub finds_origin : (es : List (Event Term)) (v : Term) (i : ℕ) → OriginatesInTerms es v i → origin_in es v ≡ Some i
finds_origin [] v i o = let t = o.transmission in absurd (cc)
finds_origin (send m ∷ es) v zero o =
    let t = o.transmission in
    let p : m ≡ o.sent = cc in
    cond-true (carries m v) (Some 0) (one_later (origin_in es v)) (is_carried v m (subst (λ x. IsCarriedByTerm v x) (sym p) o.carried))
finds_origin (send m ∷ es) v (suc i) o =
    cond-false (carries m v) (Some 0) (one_later (origin_in es v)) (not_carried_first (send m) es v i o) ∙ ap one_later (finds_origin es v i (origin_in_rest (send m) es v i o))
finds_origin (recv m ∷ es) v zero o = let t = o.transmission in absurd (cc)
finds_origin (recv m ∷ es) v (suc i) o =
    cond-false (carries m v) None (one_later (origin_in es v)) (not_carried_first (recv m) es v i o) ∙ ap one_later (finds_origin es v i (origin_in_rest (recv m) es v i o))

-- ---- variables of a list

pub variable_is : (x y : Variable) → (same_sort x.sort y.sort && (x.number == y.number)) ≡ true → x ≡ y
variable_is x y e =
    let h = and_parts (same_sort x.sort y.sort) (x.number == y.number) e in
    ap₂ (λ (s : Sort) (n : ℕ). record { sort = s; number = n }) (sort_is x.sort y.sort h.0) (eqb-true x.number y.number h.1)

pub variable_in : (xs : List Variable) (y : Variable) → has_variable xs y ≡ true → IsIn y xs
variable_in [] y e = absurd (cc)
variable_in (x ∷ xs) y e =
    ⊎_elim (λ p. subst (λ z. IsIn z (x ∷ xs)) (variable_is x y p) here) (λ p. there (variable_in xs y p))
    (or_cases (same_sort x.sort y.sort && (x.number == y.number)) (has_variable xs y) e)

pub in_has_variable : (xs : List Variable) (y : Variable) → IsIn y xs → has_variable xs y ≡ true
in_has_variable [] y p = elim p [ ]
in_has_variable (x ∷ xs) y here =
    or_left (same_sort y.sort y.sort && (y.number == y.number)) (has_variable xs y) (and_from (same_sort y.sort y.sort) (y.number == y.number) (same_sort_itself y.sort) (eq-eqb y.number y.number refl))
in_has_variable (x ∷ xs) y (there p) = or_right (same_sort x.sort y.sort && (x.number == y.number)) (has_variable xs y) (in_has_variable xs y p)

pub variables_there : (xs ys : List Variable) → has_variables xs ys ≡ true → (x : Variable) → IsIn x ys → IsIn x xs
variables_there xs [] e x p = elim p [ ]
variables_there xs (y ∷ ys) e x here = variable_in xs y (and_parts (has_variable xs y) (has_variables xs ys) e).0
variables_there xs (y ∷ ys) e x (there p) = variables_there xs ys (and_parts (has_variable xs y) (has_variables xs ys) e).1 x p

pub there_variables : (xs ys : List Variable) → ((x : Variable) → IsIn x ys → IsIn x xs) → has_variables xs ys ≡ true
there_variables xs [] h = refl
there_variables xs (y ∷ ys) h = and_from (has_variable xs y) (has_variables xs ys) (in_has_variable xs y (h y here)) (there_variables xs ys (λ x p. h x (there p)))
