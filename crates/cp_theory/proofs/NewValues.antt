-- Values for new variables.
use Rattle.std.proofs.Common.{◌≡◌, ℕ, zero, suc, ◌+◌, ◌-◌, ◌<◌, List, [], ◌∷◌, Option, Some, None, true, false, refl, ap, ◌∙◌, subst, arith}
use Rattle.std.specs.Prelude.{nat_lt, if◌then◌else◌}
use Rattle.std.proofs.lemmas.Bool.{lt-ltb, ltb-true, false_from_ne_true}
use Rattle.cp_lists.specs.Lists.{item_at}
use Rattle.cp_lists.proofs.Items.{place_of}
use Rattle.cp_model.specs.Term.{variable_term, Assignment, after, AgreeOn, Substitution, apply_to, value_of}
use Rattle.cp_model.specs.declared.sort.Sort.{Sort}
use Rattle.cp_model.specs.declared.sort.Sort.TheVariants.{Text as text_sort, Datum as datum_sort, Name as name_sort, Skey as skey_sort, Akey as akey_sort}
use Rattle.cp_model.specs.declared.variable.Variable.{Variable}
use Rattle.cp_model.proofs.LawTerms.{value_after}
use Rattle.cp_model.specs.PrefixVariables.{terms_of}
use Rattle.cp_theory.specs.Fresh.{fresh_terms, AreBelow}

abbrev number_at : Option Variable → ℕ
number_at None = 0
number_at (Some x) = x.number

-- Below n the values are those of g; from n on, one for each of these variables, they are those that f gives these.
abbrev pub beside : ℕ → List Variable → Assignment → Assignment → Assignment
beside n xs g f = record {
  texts = λ m. if nat_lt m n then g.texts m else f.texts (number_at (item_at xs (m - n)));
  datums = λ m. if nat_lt m n then g.datums m else f.datums (number_at (item_at xs (m - n)));
  names = λ m. if nat_lt m n then g.names m else f.names (number_at (item_at xs (m - n)));
  skeys = λ m. if nat_lt m n then g.skeys m else f.skeys (number_at (item_at xs (m - n)));
  akeys = λ m. if nat_lt m n then g.akeys m else f.akeys (number_at (item_at xs (m - n)));
}

abbrev variable : Sort → ℕ → Variable
variable s n = record { sort = s; number = n }

old_value : (n : ℕ) (xs : List Variable) (g f : Assignment) (s : Sort) (m : ℕ) → nat_lt m n ≡ true → value_of g (variable_term (variable s m)) ≡ value_of (beside n xs g f) (variable_term (variable s m))
old_value n xs g f text_sort m e = rw e refl
old_value n xs g f datum_sort m e = rw e refl
old_value n xs g f name_sort m e = rw e refl
old_value n xs g f skey_sort m e = rw e refl
old_value n xs g f akey_sort m e = rw e refl

-- Variables with smaller numbers keep their values.
pub old_values : (n : ℕ) (xs : List Variable) (g f : Assignment) (ys : List Variable) → AreBelow n ys → AgreeOn ys g (beside n xs g f)
old_values n xs g f ys below x i = old_value n xs g f x.sort x.number (lt-ltb x.number n (below x i))

new_value : (n : ℕ) (xs : List Variable) (g f : Assignment) (s : Sort) (m r : ℕ) → nat_lt m n ≡ false → number_at (item_at xs (m - n)) ≡ r →
    value_of (beside n xs g f) (variable_term (variable s m)) ≡ value_of f (variable_term (variable s r))
new_value n xs g f text_sort m r e at = rw e (rw at refl)
new_value n xs g f datum_sort m r e at = rw e (rw at refl)
new_value n xs g f name_sort m r e at = rw e (rw at refl)
new_value n xs g f skey_sort m r e at = rw e (rw at refl)
new_value n xs g f akey_sort m r e at = rw e (rw at refl)

not_less : (n i : ℕ) → nat_lt (n + i) n ≡ false
not_less n i = false_from_ne_true (nat_lt (n + i) n) (λ e. let l : n + i < n = ltb-true (n + i) n e in omega arith)

new_number : (n : ℕ) (xs : List Variable) (i : ℕ) (x : Variable) → item_at xs i ≡ Some x → number_at (item_at xs (n + i - n)) ≡ x.number
new_number n xs i x at = let same : n + i - n ≡ i = omega arith in ap (λ (j : ℕ). number_at (item_at xs j)) same ∙ ap number_at at

-- The term of the variable at a place of the list is the new variable for that place.
fresh_at : (terms : Substitution) (n : ℕ) (xs : List Variable) (i : ℕ) (x : Variable) → terms_of terms xs ≡ fresh_terms n xs → item_at xs i ≡ Some x → apply_to terms (variable_term x) ≡ variable_term (variable x.sort (n + i))
fresh_at terms n [] i x e at = absurd (cc)
fresh_at terms n (y ∷ ys) zero x e at =
    let same : y ≡ x = cc in
    let first : apply_to terms (variable_term y) ≡ variable_term (variable y.sort n) = cc in
    let number : n ≡ n + 0 = omega arith in
    subst (λ (z : Variable). apply_to terms (variable_term z) ≡ variable_term (variable z.sort (n + 0))) same (first ∙ ap (λ (m : ℕ). variable_term (variable y.sort m)) number)
fresh_at terms n (y ∷ ys) (suc i) x e at =
    let rest : terms_of terms ys ≡ fresh_terms (suc n) ys = cc in
    let number : suc n + i ≡ n + suc i = omega arith in
    fresh_at terms (suc n) ys i x rest at ∙ ap (λ (m : ℕ). variable_term (variable x.sort m)) number

-- The variables that become new ones have the values that f gives them.
pub new_values : (terms : Substitution) (n : ℕ) (xs : List Variable) (g f : Assignment) → terms_of terms xs ≡ fresh_terms n xs → AgreeOn xs (after (beside n xs g f) terms) f
new_values terms n xs g f e x inx =
    let p = place_of inx in
    value_after (beside n xs g f) terms (variable_term x)
    ∙ ap (value_of (beside n xs g f)) (fresh_at terms n xs p.0 x e p.1)
    ∙ new_value n xs g f x.sort (n + p.0) x.number (not_less n p.0) (new_number n xs p.0 x p.1)

-- The new variable for a place of the list has the value that f gives the variable there.
pub new_value_at : (n : ℕ) (xs : List Variable) (g f : Assignment) (i : ℕ) (x : Variable) → item_at xs i ≡ Some x →
    value_of (beside n xs g f) (variable_term (record { sort = x.sort; number = n + i })) ≡ value_of f (variable_term x)
new_value_at n xs g f i x at = new_value n xs g f x.sort (n + i) x.number (not_less n i) (new_number n xs i x at)
