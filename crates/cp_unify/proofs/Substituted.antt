-- Substitutions by bindings: composed, and under assignments that meet them.
use Rattle.std.proofs.Common.{◌≡◌, ℕ, Bool, true, false, if◌then◌else◌, ◌==◌, List, [], ◌∷◌, refl, sym, ap, ◌∙◌}
use Rattle.std.proofs.lemmas.Bool.{eqb-true}
use Rattle.cp_model.specs.Message.{KeyPair}
use Rattle.cp_model.specs.Term.{PairTerm, symmetric_term, asymmetric_term, AtomTerm, text_variable, datum_variable, name_variable, key_term, Term, atom_term, Assignment, value_of_symmetric, value_of_half, value_of_atom, value_of, Substitution, apply_to_symmetric, apply_to_half, apply_to_atom, apply_to, after, composed}
use Rattle.cp_model.proofs.LawTerms.{atom_after, value_after}
use Rattle.cp_model.specs.declared.sort.Sort.{Sort}
use Rattle.cp_model.specs.declared.sort.Sort.TheVariants.{Text as text_sort, Datum as datum_sort, Name as name_sort, Skey as skey_sort, Akey as akey_sort}
use Rattle.cp_term.specs.Variables.{variable_of_sort}
use Rattle.cp_unify.specs.Bindings.{Binding, Meets, put, put_of_sort, put_term, as_substitution}
use Rattle.cp_unify.specs.Joined.{joined_bindings}

choice_ap : {V W : Type 0} (f : V → W) (b : Bool) (v w : V) → f (if b then v else w) ≡ (if b then f v else f w)
choice_ap f true v w = refl
choice_ap f false v w = refl

choice_same : {W : Type 0} (b : Bool) (v w t : W) → (b ≡ true → v ≡ t) → w ≡ t → (if b then v else w) ≡ t
choice_same true v w t p q = p refl
choice_same false v w t p q = q

-- What f gives of a function that was changed at x.
put_ap : {V W : Type 0} (f : V → W) (x : ℕ) (v : V) (h : ℕ → V) (n : ℕ) → f (put x v h n) ≡ put x (f v) (λ m. f (h m)) n
put_ap f x v h n = choice_ap f (n == x) v (h n)

put_same : {V W : Type 0} (f : V → W) (t : ℕ → W) (x : ℕ) (v : V) (h : ℕ → V) → f v ≡ t x → ((n : ℕ) → f (h n) ≡ t n) → (n : ℕ) → f (put x v h n) ≡ t n
put_same f t x v h at_x others n =
    put_ap f x v h n ∙ choice_same (n == x) (f v) (f (h n)) (t n) (λ e. at_x ∙ ap t (sym (eqb-true n x e))) (others n)

put_composed : (k : Sort) (x : ℕ) (u : Term) (s t : Substitution) → put_of_sort k x (apply_to t u) (composed s t) ≡ composed (put_of_sort k x u s) t
put_composed text_sort x (atom_term (text_variable m)) s t = λ i. record (composed s t) { texts = λ n. sym (put_ap t.texts x m s.texts n) i }
put_composed datum_sort x (atom_term (datum_variable m)) s t = λ i. record (composed s t) { datums = λ n. sym (put_ap t.datums x m s.datums n) i }
put_composed name_sort x (atom_term (name_variable m)) s t = λ i. record (composed s t) { names = λ n. sym (put_ap t.names x m s.names n) i }
put_composed skey_sort x (atom_term (key_term (symmetric_term k))) s t =
    λ i. record (composed s t) { skeys = λ n. sym (put_ap (apply_to_symmetric t) x k s.skeys n) i }
put_composed akey_sort x (atom_term (key_term (asymmetric_term flag k))) s t =
    let f : Bool × PairTerm → Bool × PairTerm = λ h. apply_to_half t h.0 h.1 in
    λ i. record (composed s t) { akeys = λ n. sym (put_ap f x (flag, k) s.akeys n) i }
put_composed skey_sort x (atom_term (key_term (asymmetric_term flag k))) s t = refl
put_composed akey_sort x (atom_term (key_term (symmetric_term k))) s t = refl
put_composed _ x _ s t = refl

pub as_joined : (r q : List Binding) → as_substitution (joined_bindings r q) ≡ composed (as_substitution r) (as_substitution q)
as_joined [] q = refl
as_joined (b ∷ bs) q =
    ap (put_term b.variable (apply_to (as_substitution q) b.term)) (as_joined bs q)
    ∙ put_composed b.variable.sort b.variable.number b.term (as_substitution bs) (as_substitution q)

-- Under an assignment that meets the bindings, the substitution changes no value.
after_put : (g : Assignment) (k : Sort) (x : ℕ) (t : Term) (s : Substitution) → value_of g (variable_of_sort k x) ≡ value_of g t →
    after g s ≡ g → after g (put_of_sort k x t s) ≡ g
after_put g text_sort x (atom_term (text_variable m)) s e p =
    let e' : g.texts m ≡ g.texts x = cc in
    λ i. record (p i) { texts = λ n. put_same g.texts g.texts x m s.texts e' (λ k j. (p j).texts k) n i }
after_put g datum_sort x (atom_term (datum_variable m)) s e p =
    let e' : g.datums m ≡ g.datums x = cc in
    λ i. record (p i) { datums = λ n. put_same g.datums g.datums x m s.datums e' (λ k j. (p j).datums k) n i }
after_put g name_sort x (atom_term (name_variable m)) s e p =
    let e' : g.names m ≡ g.names x = cc in
    λ i. record (p i) { names = λ n. put_same g.names g.names x m s.names e' (λ k j. (p j).names k) n i }
after_put g skey_sort x (atom_term (key_term (symmetric_term k))) s e p =
    let e' : value_of_symmetric g k ≡ g.skeys x = cc in
    λ i. record (p i) { skeys = λ n. put_same (value_of_symmetric g) g.skeys x k s.skeys e' (λ m j. (p j).skeys m) n i }
after_put g akey_sort x (atom_term (key_term (asymmetric_term flag k))) s e p =
    let f : Bool × PairTerm → Bool × KeyPair = λ h. value_of_half g h.0 h.1 in
    let e0 : (value_of_half g flag k).0 ≡ (g.akeys x).0 = cc in
    let e1 : (value_of_half g flag k).1 ≡ (g.akeys x).1 = cc in
    let e' : value_of_half g flag k ≡ g.akeys x = λ i. (e0 i, e1 i) in
    λ i. record (p i) { akeys = λ n. put_same f g.akeys x (flag, k) s.akeys e' (λ m j. (p j).akeys m) n i }
after_put g skey_sort x (atom_term (key_term (asymmetric_term flag k))) s e p = p
after_put g akey_sort x (atom_term (key_term (symmetric_term k))) s e p = p
after_put g _ x _ s e p = p

pub after_met : (g : Assignment) (r : List Binding) → Meets g r → after g (as_substitution r) ≡ g
after_met g [] m = refl
after_met g (b ∷ bs) m = after_put g b.variable.sort b.variable.number b.term (as_substitution bs) m.0 (after_met g bs m.1)

pub value_met : (g : Assignment) (r : List Binding) (t : Term) → Meets g r → value_of g (apply_to (as_substitution r) t) ≡ value_of g t
value_met g r t m = sym (value_after g (as_substitution r) t) ∙ ap (λ (h : Assignment). value_of h t) (after_met g r m)

pub atom_met : (g : Assignment) (r : List Binding) (u : AtomTerm) → Meets g r → value_of_atom g (apply_to_atom (as_substitution r) u) ≡ value_of_atom g u
atom_met g r u m = sym (atom_after g (as_substitution r) u) ∙ ap (λ (h : Assignment). value_of_atom h u) (after_met g r m)
