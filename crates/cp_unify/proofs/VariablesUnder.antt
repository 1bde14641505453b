-- The variables of terms under substitutions.
use Rattle.std.proofs.Common.{◌≡◌, ◌⊎◌, inl, inr, ℕ, Bool, true, false, List, [], ◌∷◌, refl, sym, ap, ap₂, ◌∙◌, subst}
use Rattle.cp_lists.specs.Lists.{IsIn, here, there}
use Rattle.cp_model.specs.Term.{SymmetricTerm, skey_variable, ltk_term, PairTerm, akey_variable, pubk_term, symmetric_term, asymmetric_term, AtomTerm, text_variable, datum_variable, name_variable, key_term, Term, tag_term, atom_term, pair_term, enc_term, atom_of_variable, variable_term, variables_of_key, variables_of_atom, variables_of, flag_of, Substitution, apply_to_key, apply_to_atom, apply_to}
use Rattle.cp_model.specs.declared.sort.Sort.{Sort}
use Rattle.cp_model.specs.declared.sort.Sort.TheVariants.{Text as text_sort, Datum as datum_sort, Name as name_sort, Skey as skey_sort, Akey as akey_sort}
use Rattle.cp_model.specs.declared.variable.Variable.{Variable}
use Rattle.cp_model.specs.Identity.{unchanged}
use Rattle.cp_model.proofs.LawTerms.{flag_last, term_unchanged}
use Rattle.cp_model.proofs.OneBinding.{put_here, other_left}
use Rattle.cp_model.proofs.VariableTerms.{same_atom_terms}
use Rattle.cp_term.specs.Sorts.{is_of_sort}
use Rattle.cp_term.specs.Variables.{variable_of_sort}
use Rattle.cp_unify.specs.Bindings.{Binding, HasItsSort, put_of_sort, put_term, as_substitution}
use Rattle.cp_unify.proofs.Found.{swap}
use Rattle.cp_lists.proofs.Members.{in_cases, not_in_none, only_item, in_append_left, in_append_right, in_append}

-- The substitution leaves the variable.
abbrev pub Leaves : Substitution → Variable → Type 0
Leaves s x = apply_to_atom s (atom_of_variable x) ≡ atom_of_variable x

leaves_one : (s : Substitution) (x y : Variable) → Leaves s y → IsIn x (y ∷ []) → Leaves s x
leaves_one s x y h i = subst (Leaves s) (sym (only_item i)) h

leaves_two : (s : Substitution) (x y z : Variable) → Leaves s y → Leaves s z → (y ≡ x) ⊎ IsIn x (z ∷ []) → Leaves s x
leaves_two s x y z h k (inl e) = subst (Leaves s) e h
leaves_two s x y z h k (inr i) = leaves_one s x z k i

own_sum : (f : Bool) → flag_of f f ≡ false
own_sum true = refl
own_sum false = refl

leaves_akey : (s : Substitution) (flag : Bool) (n : ℕ) → apply_to_atom s (key_term (asymmetric_term flag (akey_variable n))) ≡ key_term (asymmetric_term flag (akey_variable n)) →
    Leaves s (record { sort = akey_sort; number = n })
leaves_akey s flag n e =
    let e0 : flag_of flag (s.akeys n).0 ≡ flag_of flag false = (let e' : flag_of flag (s.akeys n).0 ≡ flag = cc in e' ∙ sym (flag_last flag)) in
    let e1 : (s.akeys n).1 ≡ akey_variable n = cc in
    ap₂ (λ (f : Bool) (k : PairTerm). key_term (asymmetric_term f k)) (swap flag flag (s.akeys n).0 false e0 ∙ ap (λ (f : Bool). flag_of f false) (own_sum flag)) e1

-- A substitution that leaves a term leaves its variables.
leaves_variables_of_atom : (s : Substitution) (u : AtomTerm) → apply_to_atom s u ≡ u → (x : Variable) → IsIn x (variables_of_atom u) → Leaves s x
leaves_variables_of_atom s (text_variable n) e x i = leaves_one s x _ e i
leaves_variables_of_atom s (datum_variable n) e x i = leaves_one s x _ e i
leaves_variables_of_atom s (name_variable n) e x i = leaves_one s x _ e i
leaves_variables_of_atom s (key_term (symmetric_term (skey_variable n))) e x i = leaves_one s x _ e i
leaves_variables_of_atom s (key_term (symmetric_term (ltk_term a b))) e x i =
    let e0 : s.names a ≡ a = cc in let e1 : s.names b ≡ b = cc in
    leaves_two s x _ _ (ap name_variable e0) (ap name_variable e1) (in_cases i)
leaves_variables_of_atom s (key_term (asymmetric_term flag (akey_variable n))) e x i = leaves_one s x _ (leaves_akey s flag n e) i
leaves_variables_of_atom s (key_term (asymmetric_term flag (pubk_term p a))) e x i =
    let e0 : s.names a ≡ a = cc in leaves_one s x _ (ap name_variable e0) i

leaves_either : (s : Substitution) (xs ys : List Variable) (x : Variable) → (IsIn x xs → Leaves s x) → (IsIn x ys → Leaves s x) → IsIn x xs ⊎ IsIn x ys → Leaves s x
leaves_either s xs ys x p q (inl i) = p i
leaves_either s xs ys x p q (inr i) = q i

pub leaves_variables_of : (s : Substitution) (t : Term) → apply_to s t ≡ t → (x : Variable) → IsIn x (variables_of t) → Leaves s x
leaves_variables_of s (tag_term bytes) e x i = absurd (not_in_none i)
leaves_variables_of s (atom_term u) e x i = let e' : apply_to_atom s u ≡ u = cc in leaves_variables_of_atom s u e' x i
leaves_variables_of s (pair_term a b) e x i =
    let e0 : apply_to s a ≡ a = cc in let e1 : apply_to s b ≡ b = cc in
    leaves_either s (variables_of a) (variables_of b) x (leaves_variables_of s a e0 x) (leaves_variables_of s b e1 x) (in_append (variables_of a) (variables_of b) i)
leaves_variables_of s (enc_term a k) e x i =
    let e0 : apply_to s a ≡ a = cc in let e1 : apply_to_key s k ≡ k = cc in
    leaves_either s (variables_of a) (variables_of_key k) x (leaves_variables_of s a e0 x) (leaves_variables_of_atom s (key_term k) (ap key_term e1) x) (in_append (variables_of a) (variables_of_key k) i)

-- One that leaves the variables of a term leaves it.
leaves_key : (s : Substitution) (flag : Bool) (n : ℕ) → Leaves s (record { sort = akey_sort; number = n }) →
    apply_to_atom s (key_term (asymmetric_term flag (akey_variable n))) ≡ key_term (asymmetric_term flag (akey_variable n))
leaves_key s flag n e =
    let e0 : (s.akeys n).0 ≡ false = cc in
    let e1 : (s.akeys n).1 ≡ akey_variable n = cc in
    ap₂ (λ (f : Bool) (k : PairTerm). key_term (asymmetric_term f k)) (ap (flag_of flag) e0 ∙ flag_last flag) e1

pub leaves_atom : (s : Substitution) (u : AtomTerm) → ((x : Variable) → IsIn x (variables_of_atom u) → Leaves s x) → apply_to_atom s u ≡ u
leaves_atom s (text_variable n) h = h _ here
leaves_atom s (datum_variable n) h = h _ here
leaves_atom s (name_variable n) h = h _ here
leaves_atom s (key_term (symmetric_term (skey_variable n))) h = h _ here
leaves_atom s (key_term (symmetric_term (ltk_term a b))) h =
    let p = h (record { sort = name_sort; number = a }) here in
    let q = h (record { sort = name_sort; number = b }) (there here) in
    let e0 : s.names a ≡ a = cc in let e1 : s.names b ≡ b = cc in ap₂ (λ (m n : ℕ). key_term (symmetric_term (ltk_term m n))) e0 e1
leaves_atom s (key_term (asymmetric_term flag (akey_variable n))) h = leaves_key s flag n (h _ here)
leaves_atom s (key_term (asymmetric_term flag (pubk_term p a))) h =
    let q = h (record { sort = name_sort; number = a }) here in
    let e0 : s.names a ≡ a = cc in ap (λ (n : ℕ). key_term (asymmetric_term flag (pubk_term p n))) e0

pub leaves_term : (s : Substitution) (t : Term) → ((x : Variable) → IsIn x (variables_of t) → Leaves s x) → apply_to s t ≡ t
leaves_term s (tag_term bytes) h = refl
leaves_term s (atom_term u) h = ap atom_term (leaves_atom s u h)
leaves_term s (pair_term a b) h =
    ap₂ pair_term (leaves_term s a (λ x i. h x (in_append_left (variables_of b) i))) (leaves_term s b (λ x i. h x (in_append_right (variables_of a) i)))
leaves_term s (enc_term a k) h =
    let e : key_term (apply_to_key s k) ≡ key_term k = leaves_atom s (key_term k) (λ x i. h x (in_append_right (variables_of a) i)) in
    let e' : apply_to_key s k ≡ k = cc in
    ap₂ enc_term (leaves_term s a (λ x i. h x (in_append_left (variables_of_key k) i))) e'

-- A variable has its own sort as a term, and so has what a substitution gives it.
pub variable_has_sort : (k : Sort) (n : ℕ) → is_of_sort k (variable_of_sort k n) ≡ true
variable_has_sort text_sort n = refl
variable_has_sort datum_sort n = refl
variable_has_sort name_sort n = refl
variable_has_sort skey_sort n = refl
variable_has_sort akey_sort n = refl

pub sorted_variable : (k : Sort) (n : ℕ) (t : Term) → t ≡ variable_of_sort k n → is_of_sort k t ≡ true
sorted_variable k n t e = ap (is_of_sort k) e ∙ variable_has_sort k n

pub sort_matches : (s : Substitution) (k : Sort) (n : ℕ) → is_of_sort k (apply_to s (variable_of_sort k n)) ≡ true
sort_matches s text_sort n = refl
sort_matches s datum_sort n = refl
sort_matches s name_sort n = refl
sort_matches s skey_sort n = refl
sort_matches s akey_sort n = refl

-- One binding gives its variable its term, if that has the variable's sort, and leaves the other variables.
bound_of_sort : (k : Sort) (n : ℕ) (t : Term) (s : Substitution) → is_of_sort k t ≡ true → apply_to (put_of_sort k n t s) (variable_of_sort k n) ≡ t
bound_of_sort text_sort n (atom_term (text_variable m)) s h = ap (λ (j : ℕ). atom_term (text_variable j)) (put_here n m (s.texts n))
bound_of_sort datum_sort n (atom_term (datum_variable m)) s h = ap (λ (j : ℕ). atom_term (datum_variable j)) (put_here n m (s.datums n))
bound_of_sort name_sort n (atom_term (name_variable m)) s h = ap (λ (j : ℕ). atom_term (name_variable j)) (put_here n m (s.names n))
bound_of_sort skey_sort n (atom_term (key_term (symmetric_term k))) s h = ap (λ (j : SymmetricTerm). atom_term (key_term (symmetric_term j))) (put_here n k (s.skeys n))
bound_of_sort akey_sort n (atom_term (key_term (asymmetric_term flag k))) s h =
    ap (λ (j : Bool × PairTerm). atom_term (key_term (asymmetric_term j.0 j.1))) (put_here n (flag, k) (s.akeys n))
bound_of_sort skey_sort n (atom_term (key_term (asymmetric_term flag k))) s h = absurd (let f : false ≡ true = h in cc)
bound_of_sort akey_sort n (atom_term (key_term (symmetric_term k))) s h = absurd (let f : false ≡ true = h in cc)
bound_of_sort _ n _ s h = absurd (let f : false ≡ true = h in cc)

pub bound : (b : Binding) (s : Substitution) → HasItsSort b → apply_to (put_term b.variable b.term s) (variable_term b.variable) ≡ b.term
bound b s h = bound_of_sort b.variable.sort b.variable.number b.term s h

left_of_sort : (k : Sort) (n : ℕ) (t : Term) (s : Substitution) → is_of_sort k t ≡ false → put_of_sort k n t s ≡ s
left_of_sort text_sort n (atom_term (text_variable m)) s h = absurd (let f : true ≡ false = h in cc)
left_of_sort datum_sort n (atom_term (datum_variable m)) s h = absurd (let f : true ≡ false = h in cc)
left_of_sort name_sort n (atom_term (name_variable m)) s h = absurd (let f : true ≡ false = h in cc)
left_of_sort skey_sort n (atom_term (key_term (symmetric_term k))) s h = absurd (let f : true ≡ false = h in cc)
left_of_sort akey_sort n (atom_term (key_term (asymmetric_term flag k))) s h = absurd (let f : true ≡ false = h in cc)
left_of_sort skey_sort n (atom_term (key_term (asymmetric_term flag k))) s h = refl
left_of_sort akey_sort n (atom_term (key_term (symmetric_term k))) s h = refl
left_of_sort _ n _ s h = refl

-- A binding of any sort gives its variable its term, or changes nothing.
pub bound_or_left : (b : Binding) (s : Substitution) → (apply_to (put_term b.variable b.term s) (variable_term b.variable) ≡ b.term) ⊎ (put_term b.variable b.term s ≡ s)
bound_or_left b s = choose (is_of_sort b.variable.sort b.term) refl
  where
    choose : (c : Bool) → is_of_sort b.variable.sort b.term ≡ c → (apply_to (put_term b.variable b.term s) (variable_term b.variable) ≡ b.term) ⊎ (put_term b.variable b.term s ≡ s)
    choose true e = inl (bound b s e)
    choose false e = inr (left_of_sort b.variable.sort b.variable.number b.term s e)

pub other : (b : Binding) (s : Substitution) (x : Variable) → (x ≡ b.variable → ⊥) →
    apply_to (put_term b.variable b.term s) (variable_term x) ≡ apply_to s (variable_term x)
other b s x h = other_left s x b.variable b.term h

pub leaves_other : (b : Binding) (x : Variable) → (x ≡ b.variable → ⊥) → Leaves (as_substitution (b ∷ [])) x
leaves_other b x h = same_atom_terms (other b unchanged x h ∙ term_unchanged (variable_term x))

pub leaves_absent : (b : Binding) (t : Term) → (IsIn b.variable (variables_of t) → ⊥) → apply_to (as_substitution (b ∷ [])) t ≡ t
leaves_absent b t h = leaves_term (as_substitution (b ∷ [])) t (λ x i. leaves_other b x (λ e. h (subst (λ (y : Variable). IsIn y (variables_of t)) e i)))

-- The variables of a term under a substitution are those of what it gives to the term's variables.
module _ (P : Variable → Type 0) (s : Substitution) where
  abbrev Gives : Variable → Type 0
  Gives x = (y : Variable) → IsIn y (variables_of_atom (apply_to_atom s (atom_of_variable x))) → P y

  two_given : (x y z : Variable) → P y → P z → (y ≡ x) ⊎ IsIn x (z ∷ []) → P x
  two_given x y z p q (inl e) = subst P e p
  two_given x y z p q (inr i) = subst P (sym (only_item i)) q

  either_given : (x : Variable) (xs ys : List Variable) → (IsIn x xs → P x) → (IsIn x ys → P x) → IsIn x xs ⊎ IsIn x ys → P x
  either_given x xs ys p q (inl i) = p i
  either_given x xs ys p q (inr i) = q i

  pub given_atom : (u : AtomTerm) → ((x : Variable) → IsIn x (variables_of_atom u) → Gives x) → (y : Variable) → IsIn y (variables_of_atom (apply_to_atom s u)) → P y
  given_atom (text_variable n) h y i = h _ here y i
  given_atom (datum_variable n) h y i = h _ here y i
  given_atom (name_variable n) h y i = h _ here y i
  given_atom (key_term (symmetric_term (skey_variable n))) h y i = h _ here y i
  given_atom (key_term (symmetric_term (ltk_term a b))) h y i =
      two_given y _ _ (h (record { sort = name_sort; number = a }) here _ here) (h (record { sort = name_sort; number = b }) (there here) _ here) (in_cases i)
  given_atom (key_term (asymmetric_term flag (akey_variable n))) h y i = h _ here y i
  given_atom (key_term (asymmetric_term flag (pubk_term p a))) h y i = h (record { sort = name_sort; number = a }) here y i

  pub given_term : (t : Term) → ((x : Variable) → IsIn x (variables_of t) → Gives x) → (y : Variable) → IsIn y (variables_of (apply_to s t)) → P y
  given_term (tag_term bytes) h y i = absurd (not_in_none i)
  given_term (atom_term u) h y i = given_atom u h y i
  given_term (pair_term a b) h y i =
      either_given y _ _ (given_term a (λ x j. h x (in_append_left (variables_of b) j)) y) (given_term b (λ x j. h x (in_append_right (variables_of a) j)) y)
      (in_append (variables_of (apply_to s a)) (variables_of (apply_to s b)) i)
  given_term (enc_term a k) h y i =
      either_given y _ _ (given_term a (λ x j. h x (in_append_left (variables_of_key k) j)) y) (given_atom (key_term k) (λ x j. h x (in_append_right (variables_of a) j)) y)
      (in_append (variables_of (apply_to s a)) (variables_of_key (apply_to_key s k)) i)
