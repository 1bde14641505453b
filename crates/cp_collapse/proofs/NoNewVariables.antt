-- A most general substitution for a fact that speaks of some variables gives these terms of these variables alone, and leaves
-- all others.
use Rattle.std.proofs.Common.{◌≡◌, ◌⊎◌, inl, inr, ℕ, suc, List, Option, Some, None, sym, ap, ◌∙◌, subst, arith}
use Rattle.cp_lists.specs.Lists.{item_at, IsIn}
use Rattle.cp_model.specs.Term.{AtomTerm, Term, atom_term, variables_of_atom, variables_of, Assignment, value_of_atom, value_of, after, Substitution, apply_to_atom, apply_to, variable_term}
use Rattle.cp_model.specs.declared.sort.Sort.{Sort}
use Rattle.cp_model.specs.declared.sort.Sort.TheVariants.{Text as text_sort, Datum as datum_sort, Name as name_sort, Skey as skey_sort, Akey as akey_sort}
use Rattle.cp_model.specs.declared.variable.Variable.{Variable}
use Rattle.cp_model.specs.declared.variable.Declaration.{Declaration}
use Rattle.cp_model.specs.Problem.{declared_sort, IsDeclared}
use Rattle.cp_model.proofs.LawTerms.{value_after}
use Rattle.cp_model.proofs.LawAgreement.{agree_term}
use Rattle.cp_model.proofs.VariableTerms.{unchanged_atom, unchanged_term}
use Rattle.cp_unify.specs.Bindings.{Binding, put_term}
use Rattle.cp_unify.proofs.VariableTests.{is_variable_tells}
use Rattle.cp_unify.proofs.Free.{free, same_terms}
use Rattle.cp_unify.proofs.VariablesUnder.{Leaves, leaves_variables_of, variable_has_sort, bound, other, given_atom, given_term}
use Rattle.cp_collapse.specs.Directed.{IsMostGeneralFor}
use Rattle.cp_collapse.proofs.Bound.{gone, left_or_taken}

-- ---- whether a variable is declared

abbrev first_of_sort : Sort → Variable
first_of_sort s = record { sort = s; number = 0 }

sorts_tell : (s t : Sort) → (s ≡ t) ⊎ (s ≡ t → ⊥)
sorts_tell s t = elim (is_variable_tells (first_of_sort s) (first_of_sort t)) [
  | inl p ↦ inl (ap (λ (x : Variable). x.sort) p.1)
  | inr p ↦ inr (λ e. p.1 (ap first_of_sort e))
]

some_sort : (s t : Sort) → (s ≡ t) ⊎ (s ≡ t → ⊥) → (Some s ≡ Some t) ⊎ (Some s ≡ Some t → ⊥)
some_sort s t (inl e) = inl (ap Some e)
some_sort s t (inr differ) = inr (λ e. let same : s ≡ t = cc in differ same)

sort_tells : (o : Option Declaration) (s : Sort) → (declared_sort o ≡ Some s) ⊎ (declared_sort o ≡ Some s → ⊥)
sort_tells None s = inr (λ e. absurd (cc))
sort_tells (Some d) s = some_sort d.sort s (sorts_tell d.sort s)

pub declared_or_not : (ds : List Declaration) (x : Variable) → IsDeclared ds x ⊎ (IsDeclared ds x → ⊥)
declared_or_not ds x = sort_tells (item_at ds x.number) x.sort

-- ---- another variable of its sort

abbrev next : Variable → Variable
next y = record { sort = y.sort; number = suc y.number }

next_differs : (s : Sort) (n : ℕ) → variable_term (next (record { sort = s; number = n })) ≡ variable_term (record { sort = s; number = n }) → ⊥
next_differs text_sort n e = let m : suc n ≡ n = cc in omega (arith, m)
next_differs datum_sort n e = let m : suc n ≡ n = cc in omega (arith, m)
next_differs name_sort n e = let m : suc n ≡ n = cc in omega (arith, m)
next_differs skey_sort n e = let m : suc n ≡ n = cc in omega (arith, m)
next_differs akey_sort n e = let m : suc n ≡ n = cc in omega (arith, m)

-- The binding of a variable to the next of its sort.
abbrev to_next : Variable → Binding
to_next y = record { variable = y; term = variable_term (next y) }

-- The substitution but at one variable, which it gives the next of its sort.
abbrev but_at : Variable → Substitution → Substitution
but_at y s = put_term y (variable_term (next y)) s

never_left : (y : Variable) (s : Substitution) → Leaves (but_at y s) y → ⊥
never_left y s e =
    next_differs y.sort y.number
    (sym (bound (to_next y) s (variable_has_sort y.sort (suc y.number))) ∙ unchanged_term (but_at y s) y e)

-- The substitution but at one variable, which it leaves.
abbrev own : Variable → Binding
own y = record { variable = y; term = variable_term y }

abbrev left_at : Variable → Substitution → Substitution
left_at y s = put_term y (variable_term y) s

leaves_own : (y : Variable) (s : Substitution) → apply_to (left_at y s) (variable_term y) ≡ variable_term y
leaves_own y s = bound (own y) s (variable_has_sort y.sort y.number)

-- ---- most general substitutions

-- The substitution gives these variables terms of these variables.
abbrev pub Keeps : (Variable → Type 0) → Substitution → Type 0
Keeps P s = (x y : Variable) → P x → IsIn y (variables_of (apply_to s (variable_term x))) → P y

-- Two substitutions give these variables the same terms.
abbrev pub AgreeWithin : (Variable → Type 0) → Substitution → Substitution → Type 0
AgreeWithin P s t = (x : Variable) → P x → apply_to s (variable_term x) ≡ apply_to t (variable_term x)

-- The substitution gives declared variables terms of declared variables.
abbrev pub KeepsDeclared : List Declaration → Substitution → Type 0
KeepsDeclared variables = Keeps (IsDeclared variables)

-- Two substitutions give declared variables the same terms.
abbrev pub AgreeOnDeclared : List Declaration → Substitution → Substitution → Type 0
AgreeOnDeclared variables = AgreeWithin (IsDeclared variables)

module _ (P : Variable → Type 0) (tells : (x : Variable) → P x ⊎ (P x → ⊥)) (fact : Assignment → Type 0) (s : Substitution) (depends : (t : Substitution) → AgreeWithin P t s → fact (after free t)) (general : (g : Assignment) → fact g → (u : Term) → value_of (after g s) u ≡ value_of g u) where
  -- It comes before each substitution that makes the fact true.
  comes_before : (t : Substitution) → fact (after free t) → (u : Term) → apply_to t (apply_to s u) ≡ apply_to t u
  comes_before t is u =
      same_terms (apply_to t (apply_to s u)) (apply_to t u)
      (sym (value_after free t (apply_to s u)) ∙ sym (value_after (after free t) s u) ∙ general (after free t) is u ∙ value_after free t u)

  alike_but_at : (y : Variable) → (P y → ⊥) → AgreeWithin P (but_at y s) s
  alike_but_at y never x is = other (to_next y) s x (λ e. never (subst P e is))

  none_other : (x y : Variable) → P x → IsIn y (variables_of (apply_to s (variable_term x))) → (P y → ⊥) → ⊥
  none_other x y is i never =
      let t = but_at y s in
      let alike = alike_but_at y never in
      let u : Term = variable_term x in
      never_left y s (leaves_variables_of t (apply_to s u) (comes_before t (depends t alike) u ∙ alike x is) y i)

  pub none_new : Keeps P s
  none_new x y is i = elim (tells y) [ inl p ↦ p | inr never ↦ absurd (none_other x y is i never) ]

  -- It leaves all other variables.
  alike_left_at : (y : Variable) → (P y → ⊥) → AgreeWithin P (left_at y s) s
  alike_left_at y never x is = other (own y) s x (λ e. never (subst P e is))

  module _ (idempotent : (t : Term) → apply_to s (apply_to s t) ≡ apply_to s t) where
    left_if_taken : (y : Variable) → (P y → ⊥) → (Leaves s y → ⊥) → Leaves s y
    left_if_taken y never taken =
        let t = left_at y s in
        let u : Term = variable_term y in
        let v : Term = apply_to s u in
        let alike : apply_to t v ≡ apply_to s v = agree_term t s v (λ x i. other (own y) s x (λ e. gone s idempotent y taken u (subst (λ (z : Variable). IsIn z (variables_of v)) e i))) in
        unchanged_atom s y (sym (idempotent u) ∙ sym alike ∙ comes_before t (depends t (alike_left_at y never)) u ∙ leaves_own y s)

    pub leaves_others : (y : Variable) → (P y → ⊥) → Leaves s y
    leaves_others y never = elim (left_or_taken s idempotent y) [ inl left ↦ left | inr taken ↦ left_if_taken y never taken ]

pub no_new : (variables : List Declaration) (fact : Assignment → Type 0) (s : Substitution) → ((t : Substitution) → AgreeOnDeclared variables t s → fact (after free t)) → ((g : Assignment) → fact g → (u : Term) → value_of (after g s) u ≡ value_of g u) →
    KeepsDeclared variables s
no_new variables = none_new (IsDeclared variables) (declared_or_not variables)

-- ---- most general unifiers of two atoms

-- Terms of such variables that a substitution makes equal have one value under each that agrees with it.
pub made_equal : (P : Variable → Type 0) (a b : Term) (s : Substitution) → ((x : Variable) → IsIn x (variables_of a) → P x) → ((x : Variable) → IsIn x (variables_of b) → P x) → apply_to s a ≡ apply_to s b →
    (t : Substitution) → AgreeWithin P t s → value_of (after free t) a ≡ value_of (after free t) b
made_equal P a b s of_a of_b unifies t agree =
    let of_first : apply_to t a ≡ apply_to s a = agree_term t s a (λ x i. agree x (of_a x i)) in
    let of_second : apply_to t b ≡ apply_to s b = agree_term t s b (λ x i. agree x (of_b x i)) in
    value_after free t a ∙ ap (value_of free) (of_first ∙ unifies ∙ sym of_second) ∙ sym (value_after free t b)

module _ (P : Variable → Type 0) (tells : (x : Variable) → P x ⊎ (P x → ⊥)) (a b : AtomTerm) (s : Substitution) (of_a : (x : Variable) → IsIn x (variables_of_atom a) → P x) (of_b : (x : Variable) → IsIn x (variables_of_atom b) → P x) (m : IsMostGeneralFor a b s) where
  atoms_made_equal : (t : Substitution) → AgreeWithin P t s → value_of_atom (after free t) a ≡ value_of_atom (after free t) b
  atoms_made_equal t agree =
      let same : value_of (after free t) (atom_term a) ≡ value_of (after free t) (atom_term b) = made_equal P (atom_term a) (atom_term b) s of_a of_b (ap atom_term m.unifies) t agree in
      cc

  pub unifier_none_new : Keeps P s
  unifier_none_new = none_new P tells (λ g. value_of_atom g a ≡ value_of_atom g b) s atoms_made_equal m.general

  pub unifier_leaves : (y : Variable) → (P y → ⊥) → Leaves s y
  unifier_leaves = leaves_others P tells (λ g. value_of_atom g a ≡ value_of_atom g b) s atoms_made_equal m.general m.directed.idempotent

-- ---- terms under such a substitution

module _ (variables : List Declaration) (s : Substitution) (keeps : KeepsDeclared variables s) where
  pub of_atom : (u : AtomTerm) → ((x : Variable) → IsIn x (variables_of_atom u) → IsDeclared variables x) → (y : Variable) → IsIn y (variables_of_atom (apply_to_atom s u)) → IsDeclared variables y
  of_atom u h y i = given_atom (IsDeclared variables) s u (λ x j z m. keeps x z (h x j) m) y i

  pub of_term : (t : Term) → ((x : Variable) → IsIn x (variables_of t) → IsDeclared variables x) → (y : Variable) → IsIn y (variables_of (apply_to s t)) → IsDeclared variables y
  of_term t h y i = given_term (IsDeclared variables) s t (λ x j z m. keeps x z (h x j) m) y i
