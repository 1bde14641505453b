-- What one binding of a variable gives the variables.
use Rattle.std.proofs.Common.{◌≡◌, ◌==◌, if◌then◌else◌, ℕ, Bool, refl, ap}
use Rattle.std.proofs.lemmas.Bool.{eqb-true, eq-eqb, cond-false, cond-true, false_from_ne_true}
use Rattle.cp_model.specs.Term.{Sort, text_sort, datum_sort, name_sort, skey_sort, akey_sort, Variable, SymmetricTerm, PairTerm, text_variable, datum_variable, name_variable, key_term, symmetric_term, asymmetric_term, Term, atom_term, variable_term, Substitution, apply_to}
use Rattle.cp_model.specs.Bindings.{put_of_sort, put_term}

-- What a function that is put at one place gives there, and elsewhere.
pub put_here : {A : Type 0} (n : ℕ) (v w : A) → (if n == n then v else w) ≡ v
put_here n v w = cond-true (n == n) v w (eq-eqb n n refl)

put_other : {A : Type 0} (s : Sort) (m n : ℕ) (v w : A) → ((let x : Variable = record { sort = s; number = m } in x) ≡ record { sort = s; number = n } → ⊥) → (if m == n then v else w) ≡ w
put_other s m n v w h = cond-false (m == n) v w (false_from_ne_true (m == n) (λ e. h (ap (λ (k : ℕ). let x : Variable = record { sort = s; number = k } in x) (eqb-true m n e))))

-- It leaves the other variables.
other_of_sort : (s : Substitution) (k : Sort) (m : ℕ) (j : Sort) (n : ℕ) (t : Term) → ((let x : Variable = record { sort = k; number = m } in x) ≡ record { sort = j; number = n } → ⊥) →
    apply_to (put_of_sort j n t s) (variable_term (record { sort = k; number = m })) ≡ apply_to s (variable_term (record { sort = k; number = m }))
other_of_sort s text_sort m text_sort n (atom_term (text_variable k)) h = ap (λ (i : ℕ). atom_term (text_variable i)) (put_other text_sort m n k (s.texts m) h)
other_of_sort s datum_sort m datum_sort n (atom_term (datum_variable k)) h = ap (λ (i : ℕ). atom_term (datum_variable i)) (put_other datum_sort m n k (s.datums m) h)
other_of_sort s name_sort m name_sort n (atom_term (name_variable k)) h = ap (λ (i : ℕ). atom_term (name_variable i)) (put_other name_sort m n k (s.names m) h)
other_of_sort s skey_sort m skey_sort n (atom_term (key_term (symmetric_term k))) h =
    ap (λ (i : SymmetricTerm). atom_term (key_term (symmetric_term i))) (put_other skey_sort m n k (s.skeys m) h)
other_of_sort s akey_sort m akey_sort n (atom_term (key_term (asymmetric_term flag k))) h =
    ap (λ (i : Bool × PairTerm). atom_term (key_term (asymmetric_term i.0 i.1))) (put_other akey_sort m n (flag, k) (s.akeys m) h)
other_of_sort s _ m text_sort n (atom_term (text_variable k)) h = refl
other_of_sort s _ m datum_sort n (atom_term (datum_variable k)) h = refl
other_of_sort s _ m name_sort n (atom_term (name_variable k)) h = refl
other_of_sort s _ m akey_sort n (atom_term (key_term (asymmetric_term flag k))) h = refl
other_of_sort s _ m skey_sort n (atom_term (key_term (symmetric_term k))) h = refl
other_of_sort s _ m skey_sort n (atom_term (key_term (asymmetric_term flag k))) h = refl
other_of_sort s _ m akey_sort n (atom_term (key_term (symmetric_term k))) h = refl
other_of_sort s _ m _ n _ h = refl

pub other_left : (s : Substitution) (x y : Variable) (t : Term) → (x ≡ y → ⊥) → apply_to (put_term y t s) (variable_term x) ≡ apply_to s (variable_term x)
other_left s x y t h = other_of_sort s x.sort x.number y.sort y.number t h

-- It gives its own what a substitution gives that, if it binds it to this.
own_of_sort : (s r : Substitution) (sort : Sort) (n : ℕ) →
    (let x : Variable = record { sort = sort; number = n } in apply_to (put_term x (apply_to s (variable_term x)) r) (variable_term x) ≡ apply_to s (variable_term x))
own_of_sort s r text_sort n = ap (λ (j : ℕ). atom_term (text_variable j)) (put_here n (s.texts n) (r.texts n))
own_of_sort s r datum_sort n = ap (λ (j : ℕ). atom_term (datum_variable j)) (put_here n (s.datums n) (r.datums n))
own_of_sort s r name_sort n = ap (λ (j : ℕ). atom_term (name_variable j)) (put_here n (s.names n) (r.names n))
own_of_sort s r skey_sort n = ap (λ (j : SymmetricTerm). atom_term (key_term (symmetric_term j))) (put_here n (s.skeys n) (r.skeys n))
own_of_sort s r akey_sort n = ap (λ (j : Bool × PairTerm). atom_term (key_term (asymmetric_term j.0 j.1))) (put_here n ((s.akeys n).0, (s.akeys n).1) (r.akeys n))

pub own_bound : (s r : Substitution) (x : Variable) → apply_to (put_term x (apply_to s (variable_term x)) r) (variable_term x) ≡ apply_to s (variable_term x)
own_bound s r x = own_of_sort s r x.sort x.number
