-- What the variables of an instance become, where the wanted ones take values and the others keep their terms.
use Rattle.std.proofs.Common.{◌≡◌, ℕ, zero, suc, ◌+◌, ◌≤◌, List, [], ◌∷◌, refl, sym, ap, ◌∙◌, subst, ◌⊎◌, inl, inr, arith, Bool, true, false, ◌&&◌, not, if◌then◌else◌, cond}
use Rattle.std.specs.Prelude.{Option, Some, None, drop}
use Rattle.std.specs.List.{filter}
use Rattle.std.proofs.Math.Bool.{and-true}
use Rattle.std.proofs.lemmas.Bool.{cases_Bool}
use Rattle.cp_lists.specs.Lists.{item_at}
use Rattle.cp_model.specs.Term.{Term, variable_term, Substitution, AgreeOnTerms, apply_to}
use Rattle.cp_model.specs.Bindings.{as_substitution, bindings_of}
use Rattle.cp_model.specs.declared.sort.Sort.{Sort}
use Rattle.cp_model.specs.declared.variable.Variable.{Variable}
use Rattle.cp_model.specs.Strand.{Role, variables_of_prefix}
use Rattle.cp_model.specs.declared.variable.Declaration.{Declaration}
use Rattle.cp_model.specs.Problem.{declared_sort, IsDeclared}
use Rattle.cp_model.specs.Values.{substitution_by}
use Rattle.cp_model.proofs.DeclaredTerms.{bindings_are}
use Rattle.cp_model.proofs.LawPrefixes.{variables_of_higher}
use Rattle.cp_model.specs.Same.{has_variable}
use Rattle.cp_model.proofs.SameTests.{in_has_variable}
use Rattle.cp_model.specs.PrefixVariables.{declared_variables, prefix_variables, is_added, added_variables, AreTermsFor, terms_of}
use Rattle.cp_strand.specs.Valued.{term_or, valued}
use Rattle.cp_model.specs.Extensions.{IsClosedPrefix}
use Rattle.cp_skel.proofs.Placed.{placed, stays}

module _ (wanted : Variable → Bool) (old : List Term) (n : ℕ) (d : Declaration) (ds : List Declaration) (vs : List Term) where
  abbrev x : Variable
  x = record { sort = d.sort; number = n }

  abbrev with-value : List Term
  with-value = term_or x (item_at vs 0) ∷ valued wanted old (suc n) ds (drop 1 vs)

  abbrev with-old : List Term
  with-old = term_or x (item_at old n) ∷ valued wanted old (suc n) ds vs

  valued-taken : wanted x ≡ true → valued wanted old n (d ∷ ds) vs ≡ with-value
  valued-taken e = ap (λ (b : Bool). if b then with-value else with-old) e

  valued-kept : wanted x ≡ false → valued wanted old n (d ∷ ds) vs ≡ with-old
  valued-kept e = ap (λ (b : Bool). if b then with-value else with-old) e

  filter-taken : wanted x ≡ true → filter wanted (declared_variables n (d ∷ ds)) ≡ x ∷ filter wanted (declared_variables (suc n) ds)
  filter-taken e = ap (λ (b : Bool). cond b (x ∷ filter wanted (declared_variables (suc n) ds)) (filter wanted (declared_variables (suc n) ds))) e

  filter-kept : wanted x ≡ false → filter wanted (declared_variables n (d ∷ ds)) ≡ filter wanted (declared_variables (suc n) ds)
  filter-kept e = ap (λ (b : Bool). cond b (x ∷ filter wanted (declared_variables (suc n) ds)) (filter wanted (declared_variables (suc n) ds))) e

-- ---- what stays

later-item : (b : Bool) (t u : Term) (r s : List Term) (i : ℕ) (o : Option Term) → item_at r i ≡ o → item_at s i ≡ o → item_at (if b then t ∷ r else u ∷ s) (suc i) ≡ o
later-item true t u r s i o e f = e
later-item false t u r s i o e f = f

-- The declaration at place i, whose variable has number m, is not wanted.
kept-at : (wanted : Variable → Bool) (old : List Term) (n i m : ℕ) (ds : List Declaration) (vs : List Term) (d : Declaration) → m ≡ n + i → item_at ds i ≡ Some d →
    wanted (record { sort = d.sort; number = m }) ≡ false → item_at (valued wanted old n ds vs) i ≡ Some (term_or (record { sort = d.sort; number = m }) (item_at old m))
kept-at wanted old n i m [] vs d e at no-value = absurd (cc)
kept-at wanted old n zero m (d' ∷ ds) vs d e at no-value =
    let here : d' ≡ d = cc in
    let number : m ≡ n = omega (arith, e) in
    let now : wanted (record { sort = d'.sort; number = n }) ≡ false = ap (λ k. wanted (record { sort = k.sort; number = n })) here ∙ ap (λ k. wanted (record { sort = d.sort; number = k })) (sym number) ∙ no-value in
    ap (λ us. item_at us 0) (valued-kept wanted old n d' ds vs now)
    ∙ ap (λ k. Some (term_or (record { sort = k.sort; number = n }) (item_at old n))) here ∙ ap (λ k. Some (term_or (record { sort = d.sort; number = k }) (item_at old k))) (sym number)
kept-at wanted old n (suc i) m (d' ∷ ds) vs d e at no-value =
    let number : m ≡ suc n + i = omega (arith, e) in
    later-item (wanted (record { sort = d'.sort; number = n })) _ _ _ _ i _
    (kept-at wanted old (suc n) i m ds (drop 1 vs) d number at no-value) (kept-at wanted old (suc n) i m ds vs d number at no-value)

declared-at : (o : Option Declaration) (s : Sort) → declared_sort o ≡ Some s → (d : Declaration) × (o ≡ Some d) × (d.sort ≡ s)
declared-at None s e = absurd (cc)
declared-at (Some d) s e = (d, refl, cc)

-- A declared variable that is not wanted becomes what it was.
pub kept-term : (wanted : Variable → Bool) (old : List Term) (ds : List Declaration) (vs : List Term) (x : Variable) → IsDeclared ds x → wanted x ≡ false →
    apply_to (substitution_by old) (variable_term x) ≡ apply_to (substitution_by (valued wanted old 0 ds vs)) (variable_term x)
kept-term wanted old ds vs x declared no-value =
    let r = declared-at (item_at ds x.number) x.sort declared in
    let same : r.0.sort ≡ x.sort = r.2 in
    let now : wanted (record { sort = r.0.sort; number = x.number }) ≡ false = ap (λ s. wanted (record { sort = s; number = x.number })) same ∙ no-value in
    let at = kept-at wanted old 0 x.number x.number ds vs r.0 (omega arith) r.1 now in
    stays x.sort x.number old (valued wanted old 0 ds vs) (at ∙ ap (λ s. Some (term_or (record { sort = s; number = x.number }) (item_at old x.number))) same)

-- ---- what the values are

-- These terms stand in the whole list from number n on.
StandFrom : ℕ → List Term → List Term → Type 0
StandFrom n ts whole = (i m : ℕ) (t : Term) → m ≡ n + i → item_at ts i ≡ Some t → item_at whole m ≡ Some t

stand-later : (n : ℕ) (t : Term) (ts whole : List Term) → StandFrom n (t ∷ ts) whole → StandFrom (suc n) ts whole
unfolding StandFrom
stand-later n t ts whole h i m u e at = h (suc i) m u (omega (arith, e)) at

stand-first : (n : ℕ) (t : Term) (ts whole : List Term) → StandFrom n (t ∷ ts) whole → item_at whole n ≡ Some t
unfolding StandFrom
stand-first n t ts whole h = h 0 n t (omega arith) refl

abbrev TakesValues : (Variable → Bool) → List Term → ℕ → List Declaration → List Term → Type 0
TakesValues wanted whole n ds vs = terms_of (substitution_by whole) (filter wanted (declared_variables n ds)) ≡ vs

first-taken : (wanted : Variable → Bool) (old whole : List Term) (n : ℕ) (d : Declaration) (ds : List Declaration) (vs : List Term) → wanted (record { sort = d.sort; number = n }) ≡ true →
    AreTermsFor (record { sort = d.sort; number = n } ∷ filter wanted (declared_variables (suc n) ds)) vs → StandFrom n (with-value wanted old n d ds vs) whole →
    ((ws : List Term) → AreTermsFor (filter wanted (declared_variables (suc n) ds)) ws → StandFrom (suc n) (valued wanted old (suc n) ds ws) whole → TakesValues wanted whole (suc n) ds ws) →
    terms_of (substitution_by whole) (record { sort = d.sort; number = n } ∷ filter wanted (declared_variables (suc n) ds)) ≡ vs
first-taken wanted old whole n d ds [] e fit stand more = absurd fit
first-taken wanted old whole n d ds (v ∷ ws) e fit stand more =
    ap (λ t. t ∷ terms_of (substitution_by whole) (filter wanted (declared_variables (suc n) ds))) (placed d.sort n v whole fit.0 (stand-first n v (valued wanted old (suc n) ds ws) whole stand))
    ∙ ap (λ ts. v ∷ ts) (more ws fit.1 (stand-later n v (valued wanted old (suc n) ds ws) whole stand))

no-values : (vs : List Term) → AreTermsFor [] vs → [] ≡ vs
no-values [] h = refl
no-values (v ∷ vs) h = absurd h

takes-values : (wanted : Variable → Bool) (old whole : List Term) (n : ℕ) (ds : List Declaration) (vs : List Term) → AreTermsFor (filter wanted (declared_variables n ds)) vs →
    StandFrom n (valued wanted old n ds vs) whole → TakesValues wanted whole n ds vs
takes-values wanted old whole n [] vs fit stand = no-values vs fit
takes-values wanted old whole n (d ∷ ds) vs fit stand = either-way (cases_Bool (wanted (record { sort = d.sort; number = n }))) (λ ws. takes-values wanted old whole (suc n) ds ws)
  where
    either-way : (wanted (record { sort = d.sort; number = n }) ≡ true) ⊎ (wanted (record { sort = d.sort; number = n }) ≡ false) →
        ((ws : List Term) → AreTermsFor (filter wanted (declared_variables (suc n) ds)) ws → StandFrom (suc n) (valued wanted old (suc n) ds ws) whole → TakesValues wanted whole (suc n) ds ws) →
        TakesValues wanted whole n (d ∷ ds) vs
    either-way (inl e) more =
        ap (terms_of (substitution_by whole)) (filter-taken wanted old n d ds vs e)
        ∙ first-taken wanted old whole n d ds vs e (subst (λ xs. AreTermsFor xs vs) (filter-taken wanted old n d ds vs e) fit)
        (subst (λ ts. StandFrom n ts whole) (valued-taken wanted old n d ds vs e) stand) more
    either-way (inr e) more =
        ap (terms_of (substitution_by whole)) (filter-kept wanted old n d ds vs e)
        ∙ more vs (subst (λ xs. AreTermsFor xs vs) (filter-kept wanted old n d ds vs e) fit)
        (stand-later n _ (valued wanted old (suc n) ds vs) whole (subst (λ ts. StandFrom n ts whole) (valued-kept wanted old n d ds vs e) stand))

stand-all : (ts : List Term) → StandFrom 0 ts ts
unfolding StandFrom
stand-all ts i m t e at = let number : m ≡ i = omega (arith, e) in ap (item_at ts) number ∙ at

pub value-terms : (wanted : Variable → Bool) (old : List Term) (ds : List Declaration) (vs : List Term) → AreTermsFor (filter wanted (declared_variables 0 ds)) vs →
    terms_of (as_substitution (bindings_of (valued wanted old 0 ds vs))) (filter wanted (declared_variables 0 ds)) ≡ vs
value-terms wanted old ds vs fit =
    ap (λ (s : Substitution). terms_of s (filter wanted (declared_variables 0 ds))) (bindings_are (valued wanted old 0 ds vs))
    ∙ takes-values wanted old (valued wanted old 0 ds vs) 0 ds vs fit (stand-all (valued wanted old 0 ds vs))

-- ---- prefixes

filter-alike : (p q : Variable → Bool) (xs : List Variable) → ((x : Variable) → p x ≡ q x) → filter p xs ≡ filter q xs
filter-alike p q [] h = refl
filter-alike p q (x ∷ xs) h = ap (λ (b : Bool). cond b (x ∷ filter p xs) (filter p xs)) (h x) ∙ ap (λ ys. cond (q x) (x ∷ ys) ys) (filter-alike p q xs h)

-- To no prefix at all, all variables of a prefix are added.
pub all-added : (role : Role) (height : ℕ) → added_variables role 0 height ≡ prefix_variables role height
all-added role height =
    filter-alike (is_added (variables_of_prefix role 0) (variables_of_prefix role height)) (has_variable (variables_of_prefix role height)) (declared_variables 0 role.variables)
    (λ x. and-true (has_variable (variables_of_prefix role height) x))

not-added : (a b : Bool) → b ≡ true → (a && not b) ≡ false
not-added true b e = ap not e
not-added false b e = refl

pub keeps-terms : (role : Role) (before height : ℕ) (old vs : List Term) → before ≤ height → IsClosedPrefix role height →
    AgreeOnTerms (variables_of_prefix role before) (as_substitution (bindings_of old))
    (as_substitution (bindings_of (valued (is_added (variables_of_prefix role before) (variables_of_prefix role height)) old 0 role.variables vs)))
keeps-terms role before height old vs le closed x i =
    ap (λ (s : Substitution). apply_to s (variable_term x)) (bindings_are old)
    ∙ kept-term (is_added (variables_of_prefix role before) (variables_of_prefix role height)) old role.variables vs x (closed x (variables_of_higher role before height le x i))
    (not-added (has_variable (variables_of_prefix role height) x) (has_variable (variables_of_prefix role before) x) (in_has_variable (variables_of_prefix role before) x i))
    ∙ ap (λ (s : Substitution). apply_to s (variable_term x)) (sym (bindings_are (valued (is_added (variables_of_prefix role before) (variables_of_prefix role height)) old 0 role.variables vs)))
