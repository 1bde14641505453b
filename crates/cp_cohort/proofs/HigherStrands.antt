-- Skeletons with a strand that is higher, or one more.
use Rattle.std.proofs.Common.{append_assoc, ◌≡◌, ℕ, suc, ◌+◌, ◌<◌, ◌≤◌, List, [], ◌∷◌, ◌++◌, length, get_or, drop, Some, refl, sym, ap, ◌∙◌, subst, add-one, arith, Bool, true, false, cond}
use Rattle.std.specs.List.{filter}
use Rattle.std.proofs.lemmas.List.{append-nil, drop_all}
use Rattle.cp_lists.specs.Lists.{item_at}
use Rattle.cp_lists.proofs.Members.{drop_read}
use Rattle.cp_model.specs.Term.{Term, variable_term}
use Rattle.cp_model.specs.declared.variable.Variable.{Variable}
use Rattle.cp_model.specs.Strand.{Role, variables_of_prefix}
use Rattle.cp_model.specs.declared.variable.Declaration.{Declaration}
use Rattle.cp_model.specs.PrefixVariables.{declared_variables, is_added, added_variables}
use Rattle.cp_model.specs.Skeleton.{Skeleton}
use Rattle.cp_theory.specs.Fresh.{fresh_terms}
use Rattle.cp_cohort.specs.CoveringChildren.{declaration_onto, declarations_among}
use Rattle.cp_skel.specs.Tables.{DiffersInTable}
use Rattle.cp_cohort.specs.Children.{Declares}

-- Those of the declarations, the first of which is that of variable number n, whose variables are wanted.
abbrev pub declared_from : (Variable → Bool) → ℕ → List Declaration → List Declaration
declared_from wanted n [] = []
declared_from wanted n (d ∷ ds) = cond (wanted (record { sort = d.sort; number = n })) (d ∷ declared_from wanted (suc n) ds) (declared_from wanted (suc n) ds)

-- Of these declarations, the first of which is that of variable number n, new variables are still to be declared.
pub record IsDeclaredSoFar (wanted : Variable → Bool) (n : ℕ) (ds : List Declaration) (terms : List Term) (all : List Declaration) (old new : Skeleton) (values : List Term) : Type 0 where
  pub values_all : values ++ fresh_terms (length new.variables) (filter wanted (declared_variables n ds)) ≡ terms
  pub declared_all : new.variables ++ declared_from wanted n ds ≡ all
  pub rest : DiffersInTable old new

module _ (wanted : Variable → Bool) (terms : List Term) (all : List Declaration) (old : Skeleton) where
  skipped : (n : ℕ) (d : Declaration) (ds : List Declaration) (new : Skeleton) (values : List Term) → wanted (record { sort = d.sort; number = n }) ≡ false → IsDeclaredSoFar wanted n (d ∷ ds) terms all old new values →
      IsDeclaredSoFar wanted (suc n) ds terms all old new values
  skipped n d ds new values fails h =
      let x : Variable = record { sort = d.sort; number = n } in
      let xs : List Variable = filter wanted (declared_variables (suc n) ds) in
      record {
        values_all = ap (λ (b : Bool). values ++ fresh_terms (length new.variables) (cond b (x ∷ xs) xs)) (sym fails) ∙ h.values_all;
        declared_all = ap (λ (b : Bool). new.variables ++ cond b (d ∷ declared_from wanted (suc n) ds) (declared_from wanted (suc n) ds)) (sym fails) ∙ h.declared_all;
        rest = h.rest;
      }

  declared : (n : ℕ) (d : Declaration) (ds : List Declaration) (new new' : Skeleton) (values values' : List Term) → wanted (record { sort = d.sort; number = n }) ≡ true → Declares d new new' values values' →
      IsDeclaredSoFar wanted n (d ∷ ds) terms all old new values → IsDeclaredSoFar wanted (suc n) ds terms all old new' values'
  declared n d ds new new' values values' holds e h =
      let x : Variable = record { sort = d.sort; number = n } in
      let t : Term = variable_term (record { sort = d.sort; number = length new.variables }) in
      let xs : List Variable = filter wanted (declared_variables (suc n) ds) in
      let more : List Declaration = declared_from wanted (suc n) ds in
      record {
        values_all = ap (λ (us : List Term). us ++ fresh_terms (length new'.variables) xs) e.put ∙ ap (λ (m : ℕ). (values ++ t ∷ []) ++ fresh_terms m xs) e.count ∙ append_assoc values (t ∷ []) (fresh_terms (suc (length new.variables)) xs)
            ∙ ap (λ (b : Bool). values ++ fresh_terms (length new.variables) (cond b (x ∷ xs) xs)) (sym holds) ∙ h.values_all;
        declared_all = ap (λ (vs : List Declaration). vs ++ more) e.declared ∙ append_assoc new.variables (d ∷ []) more
            ∙ ap (λ (b : Bool). new.variables ++ cond b (d ∷ more) more) (sym holds) ∙ h.declared_all;
        rest = e.rest ∙ ap (λ (k : Skeleton). record k { variables = new'.variables }) h.rest;
      }

  module _ (ds : List Declaration) (n : ℕ) (d : Declaration) (lt : n < length ds) (is : d ≡ get_or ds n d) (id : ℕ) (same : id ≡ n) where
    opened : drop n ds ≡ d ∷ drop (n + 1) ds
    opened = drop_read ds n d lt is

    moved : (new : Skeleton) (values : List Term) → IsDeclaredSoFar wanted n (drop n ds) terms all old new values →
        IsDeclaredSoFar wanted n (d ∷ drop (n + 1) ds) terms all old new values
    moved new values h = subst (λ es. IsDeclaredSoFar wanted n es terms all old new values) opened h

    back : (new : Skeleton) (values : List Term) → IsDeclaredSoFar wanted (suc n) (drop (n + 1) ds) terms all old new values →
        IsDeclaredSoFar wanted (n + 1) (drop (n + 1) ds) terms all old new values
    back new values h = subst (λ m. IsDeclaredSoFar wanted m (drop (n + 1) ds) terms all old new values) (sym (add-one n)) h

    asked : (b : Bool) → b ≡ wanted (record { sort = d.sort; number = id }) → wanted (record { sort = d.sort; number = n }) ≡ b
    asked b e = ap (λ m. wanted (record { sort = d.sort; number = m })) (sym same) ∙ sym e

    pub one_skipped : (b : Bool) → b ≡ wanted (record { sort = d.sort; number = id }) → b ≡ false → (new : Skeleton) (values : List Term) → IsDeclaredSoFar wanted n (drop n ds) terms all old new values →
        IsDeclaredSoFar wanted (n + 1) (drop (n + 1) ds) terms all old new values
    one_skipped b e fails new values h = back new values (skipped n d (drop (n + 1) ds) new values (asked b e ∙ fails) (moved new values h))

    pub one_declared : (b : Bool) → b ≡ wanted (record { sort = d.sort; number = id }) → b ≡ true → (new new' : Skeleton) (values values' : List Term) → Declares d new new' values values' →
        IsDeclaredSoFar wanted n (drop n ds) terms all old new values → IsDeclaredSoFar wanted (n + 1) (drop (n + 1) ds) terms all old new' values'
    one_declared b e holds new new' values values' f h = back new' values' (declared n d (drop (n + 1) ds) new new' values values' (asked b e ∙ holds) f (moved new values h))

  pub declared_last : (ds : List Declaration) (n : ℕ) → length ds ≤ n → (new : Skeleton) (values : List Term) → IsDeclaredSoFar wanted n (drop n ds) terms all old new values →
      IsDeclaredSoFar wanted n [] terms all old new values
  declared_last ds n past new values h = subst (λ es. IsDeclaredSoFar wanted n es terms all old new values) (drop_all n ds past) h

-- ---- the declarations of variables of a role

module _ (role : Role) (wanted : Variable → Bool) where
  onto_one : (n : ℕ) (d : Declaration) (xs : List Variable) (ds : List Declaration) → item_at role.variables n ≡ Some d → declarations_among role xs ≡ ds → (b : Bool) →
      declarations_among role (cond b (record { sort = d.sort; number = n } ∷ xs) xs) ≡ cond b (d ∷ ds) ds
  onto_one n d xs ds at e true = ap (λ o. declaration_onto o (declarations_among role xs)) at ∙ ap (λ es. d ∷ es) e
  onto_one n d xs ds at e false = e

  of_filtered : (n : ℕ) (ds : List Declaration) → ((j : ℕ) (d : Declaration) → item_at ds j ≡ Some d → item_at role.variables (n + j) ≡ Some d) → declarations_among role (filter wanted (declared_variables n ds)) ≡ declared_from wanted n ds
  of_filtered n [] h = refl
  of_filtered n (d ∷ ds) h =
      let here : item_at role.variables n ≡ Some d = let e : n + 0 ≡ n = omega arith in subst (λ m. item_at role.variables m ≡ Some d) e (h 0 d refl) in
      onto_one n d (filter wanted (declared_variables (suc n) ds)) (declared_from wanted (suc n) ds) here
      (of_filtered (suc n) ds (λ j c at. let e : n + suc j ≡ suc n + j = omega arith in subst (λ m. item_at role.variables m ≡ Some c) e (h (suc j) c at)))
      (wanted (record { sort = d.sort; number = n }))

  pub declarations_filtered : declarations_among role (filter wanted (declared_variables 0 role.variables)) ≡ declared_from wanted 0 role.variables
  declarations_filtered = of_filtered 0 role.variables (λ j d at. let e : j ≡ 0 + j = omega arith in subst (λ (m : ℕ). item_at role.variables m ≡ Some d) e at)

-- ---- at the first declaration, and behind the last

pub declared_at_first : (wanted : Variable → Bool) (ds : List Declaration) (k : Skeleton) (values : List Term) → values ≡ [] →
    IsDeclaredSoFar wanted 0 ds (fresh_terms (length k.variables) (filter wanted (declared_variables 0 ds))) (k.variables ++ declared_from wanted 0 ds) k k values
declared_at_first wanted ds k values none = record { values_all = ap (λ (us : List Term). us ++ fresh_terms (length k.variables) (filter wanted (declared_variables 0 ds))) none; declared_all = refl; rest = refl }

pub all_declared : (role : Role) (before height : ℕ) (ds : List Declaration) → ds ≡ role.variables → (n : ℕ) → length ds ≤ n → (old new : Skeleton) (values : List Term) →
    let wanted = is_added (variables_of_prefix role before) (variables_of_prefix role height) in
    IsDeclaredSoFar wanted n (drop n ds) (fresh_terms (length old.variables) (filter wanted (declared_variables 0 ds))) (old.variables ++ declared_from wanted 0 ds) old new values →
    (values ≡ fresh_terms (length old.variables) (added_variables role before height))
    × (new.variables ≡ old.variables ++ declarations_among role (added_variables role before height))
    × DiffersInTable old new
all_declared role before height ds all n past old new values h =
    let wanted = is_added (variables_of_prefix role before) (variables_of_prefix role height) in
    let e = declared_last wanted _ _ old ds n past new values h in
    let filtered : filter wanted (declared_variables 0 ds) ≡ added_variables role before height = ap (λ (es : List Declaration). filter wanted (declared_variables 0 es)) all in
    let listed : declared_from wanted 0 ds ≡ declarations_among role (added_variables role before height) = ap (declared_from wanted 0) all ∙ sym (declarations_filtered role wanted) in (
      sym (append-nil values) ∙ e.values_all ∙ ap (fresh_terms (length old.variables)) filtered,
      sym (append-nil new.variables) ∙ e.declared_all ∙ ap (λ (zs : List Declaration). old.variables ++ zs) listed,
      e.rest,
    )
