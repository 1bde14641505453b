-- Unifying the terms of two instances for each variable of a prefix, in the order of their declarations.
use Rattle.std.proofs.Common.{◌≡◌, ◌⊎◌, inl, inr, ℕ, ◌<◌, ◌≤◌, ◌+◌, Bool, true, false, List, Some, min, length, get_or, refl, sym, ap, ◌∙◌, subst, arith, eq-or-lt_of_le}
use Rattle.cp_lists.specs.Lists.{item_at, IsIn}
use Rattle.cp_model.specs.Term.{Term, Assignment, value_of, after, Substitution, variable_term}
use Rattle.cp_model.specs.Bindings.{as_substitution, bindings_of}
use Rattle.cp_model.specs.declared.sort.Sort.{Sort}
use Rattle.cp_model.specs.declared.variable.Variable.{Variable}
use Rattle.cp_model.specs.Strand.{Role, prefix_of, variables_of_trace, variables_of_prefix}
use Rattle.cp_model.specs.declared.variable.Declaration.{Declaration}
use Rattle.cp_model.specs.declared.strand.Event.{Event}
use Rattle.cp_model.specs.Homomorphism.{substitution_by}
use Rattle.cp_model.specs.Problem.{declared_sort, IsDeclared}
use Rattle.cp_model.proofs.DeclaredTerms.{bindings_are}
use Rattle.cp_model.proofs.LawPrefixes.{variables_of_higher}
use Rattle.cp_lists.proofs.Items.{item_of_read}
use Rattle.cp_unify.specs.Bindings.{Binding, Meets}
use Rattle.cp_unify.specs.Unifiers.{IsMostGeneralUnifier, HasNoUnifier}
use Rattle.cp_model.specs.Extensions.{IsClosedPrefix}
use Rattle.cp_model.specs.Same.{has_variable}
use Rattle.cp_model.proofs.SameTests.{variable_in, in_has_variable}
use Rattle.cp_model.proofs.DeclaredVariables.{declared_below}
use Rattle.cp_collapse.specs.FirstPartitions.{IsExactFor}
use Rattle.cp_collapse.specs.Partials.{AreSolved}
use Rattle.cp_collapse.specs.Partitions.{HaveEqualValues}
use Rattle.cp_collapse.specs.Values.{image_of_variable}
use Rattle.cp_collapse.proofs.Exact.{exact_same, exact_unified, never_unified, equal_terms, terms_equal}

-- ---- the variable that is declared at a number

-- The variable is that declared at its number.
declared_there : (ds : List Declaration) (n : ℕ) (d : Declaration) (x : Variable) → n < length ds → d ≡ get_or ds n d → x ≡ record { sort = d.sort; number = n } → IsDeclared ds x
declared_there ds n d x less is same = subst (IsDeclared ds) (sym same) (ap declared_sort (item_of_read ds n d less is))

-- Two declared variables with one number are one.
one_at_number : (ds : List Declaration) (x y : Variable) → IsDeclared ds x → IsDeclared ds y → x.number ≡ y.number → x ≡ y
one_at_number ds x y dx dy same =
    let e : Some x.sort ≡ Some y.sort = sym dx ∙ ap (λ n. declared_sort (item_at ds n)) same ∙ dy in
    let sort : x.sort ≡ y.sort = cc in
    ap (λ (s : Sort). record { sort = s; number = x.number }) sort ∙ ap (λ (n : ℕ). record { sort = y.sort; number = n }) same

-- What is in two prefixes is in the shorter.
in_lower : (role : Role) (height first second : ℕ) → height ≡ min first second → (x : Variable) → IsIn x (variables_of_prefix role first) → IsIn x (variables_of_prefix role second) → IsIn x (variables_of_prefix role height)
in_lower role height first second lower x i j = by (one_of_both height first second lower)
  where
    one_of_both : (n a b : ℕ) → n ≡ min a b → (n ≡ a) ⊎ (n ≡ b)
    one_of_both n a b e = grind (arith, e)

    by : (height ≡ first) ⊎ (height ≡ second) → IsIn x (variables_of_prefix role height)
    by (inl e) = subst (λ n. IsIn x (variables_of_prefix role n)) (sym e) i
    by (inr e) = subst (λ n. IsIn x (variables_of_prefix role n)) (sym e) j

-- A prefix that is no longer than one whose variables are declared has declared variables.
pub closed_lower : (role : Role) (first second : ℕ) → IsClosedPrefix role first → IsClosedPrefix role (min first second)
closed_lower role first second closed x i = closed x (variables_of_higher role (min first second) first (omega arith) x i)

-- ---- the loop

module _ (e : Assignment → Type 0) (role : Role) (height : ℕ) (s t : List Binding) where
  -- An assignment gives the variable one value after both substitutions.
  abbrev Agree : Assignment → Variable → Type 0
  Agree g x = value_of (after g (as_substitution s)) (variable_term x) ≡ value_of (after g (as_substitution t)) (variable_term x)

  -- The fact is true, and two instances agree on the variables of the prefix with smaller numbers than n.
  abbrev pub AgreeBelow : ℕ → Assignment → Type 0
  AgreeBelow n g = e g × ((x : Variable) → IsIn x (variables_of_prefix role height) → x.number < n → Agree g x)

  pub below_first : (r : List Binding) → IsExactFor e r → IsExactFor (AgreeBelow 0) r
  below_first r = exact_same e (AgreeBelow 0) r (λ g f. (f, λ x i l. absurd (omega (arith, l)))) (λ g f. f.0)

  -- Equal values are equal in a prefix that is no longer than either.
  pub equal_below : (n first second : ℕ) → height ≤ first → height ≤ second → (g : Assignment) → e g × HaveEqualValues role first s second t g → AgreeBelow n g
  equal_below n first second le le' g f = (f.0, λ x i l. f.1 x (variables_of_higher role height first le x i) (variables_of_higher role height second le' x i))

  module _ (closed : IsClosedPrefix role height) (n : ℕ) (r : List Binding) (so_far : IsExactFor (AgreeBelow n) r) where
    one_more : (g : Assignment) → AgreeBelow n g → ((x : Variable) → IsIn x (variables_of_prefix role height) → x.number ≡ n → Agree g x) → AgreeBelow (n + 1) g
    one_more g f here = (f.0, λ x i l. by x i (eq-or-lt_of_le (omega (arith, l))))
      where
        by : (x : Variable) → IsIn x (variables_of_prefix role height) → (x.number ≡ n) ⊎ (x.number < n) → Agree g x
        by x i (inl e) = here x i e
        by x i (inr l) = f.1 x i l

    one_less : (g : Assignment) → AgreeBelow (n + 1) g → AgreeBelow n g
    one_less g f = (f.0, λ x i l. f.1 x i (omega (arith, l)))

    module _ (y : Variable) (number : y.number ≡ n) (declared : IsDeclared role.variables y) where
      only : (x : Variable) → IsIn x (variables_of_prefix role height) → x.number ≡ n → y ≡ x
      only x i e = one_at_number role.variables y x declared (closed x i) (number ∙ sym e)

      -- The variable does not occur in the prefix.
      pub below_passes : has_variable (variables_of_prefix role height) y ≡ false → IsExactFor (AgreeBelow (n + 1)) r
      below_passes none = exact_same (AgreeBelow n) (AgreeBelow (n + 1)) r (λ g f. one_more g f (λ x i e. absurd (missing x i e))) one_less so_far
        where
          missing : (x : Variable) → IsIn x (variables_of_prefix role height) → x.number ≡ n → ⊥
          missing x i e = let q : true ≡ false = sym (in_has_variable (variables_of_prefix role height) y (subst (λ (z : Variable). IsIn z (variables_of_prefix role height)) (sym (only x i e)) i)) ∙ none in cc

      -- It does, and its terms are unified, or have no unifier.
      module _ (there : has_variable (variables_of_prefix role height) y ≡ true) (a b : Term) (first : a ≡ image_of_variable (as_substitution s) y) (second : b ≡ image_of_variable (as_substitution t) y) where
        equal : (g : Assignment) → AgreeBelow (n + 1) g → value_of g a ≡ value_of g b
        equal g f = ap (value_of g) first ∙ terms_equal g (as_substitution s) (as_substitution t) y (f.1 y (variable_in (variables_of_prefix role height) y there) (omega (arith, number))) ∙ ap (value_of g) (sym second)

        agrees : (g : Assignment) → value_of g a ≡ value_of g b → (x : Variable) → IsIn x (variables_of_prefix role height) → x.number ≡ n → Agree g x
        agrees g same x i e = subst (Agree g) (only x i e) (equal_terms g (as_substitution s) (as_substitution t) y (ap (value_of g) (sym first) ∙ same ∙ ap (value_of g) second))

        pub below_takes : (q : List Binding) → IsMostGeneralUnifier a b r q → IsExactFor (AgreeBelow (n + 1)) q
        below_takes q m =
            exact_same (λ g. AgreeBelow n g × (value_of g a ≡ value_of g b)) (AgreeBelow (n + 1)) q
            (λ g f. one_more g f.0 (agrees g f.1))
            (λ g f. (one_less g f, equal g f))
            (exact_unified (AgreeBelow n) a b r q so_far m)

        pub below_apart : ((g : Assignment) → value_of g a ≡ value_of g b → ⊥) → (g : Assignment) → AgreeBelow (n + 1) g → ⊥
        below_apart apart g f = apart g (equal g f)

        pub below_never : HasNoUnifier a b r → (g : Assignment) → AgreeBelow (n + 1) g → ⊥
        below_never none g f = never_unified (AgreeBelow n) a b r so_far none g (one_less g f) (equal g f)

    -- All declarations are done, and the prefix is the shorter of two.
    pub below_last : (first second : ℕ) → height ≡ min first second → length role.variables ≤ n → IsExactFor (λ g. e g × HaveEqualValues role first s second t g) r
    below_last first second lower done =
        exact_same (AgreeBelow n) (λ g. e g × HaveEqualValues role first s second t g) r
        (λ g f. (f.0, λ x i j. let k = in_lower role height first second lower x i j in let b = declared_below role.variables x.number x.sort (closed x k) in f.1 x k (omega (arith, b, done))))
        (λ g f. equal_below n first second (omega (arith, lower)) (omega (arith, lower)) g f)
        so_far

-- At first the given bindings.
pub given_first : (role : Role) (height : ℕ) (s t : List Binding) (given r : List Binding) → AreSolved given → r ≡ given → IsExactFor (AgreeBelow (λ g. Meets g given) role height s t 0) r
given_first role height s t given r solved same =
    below_first (λ g. Meets g given) role height s t r (subst (IsExactFor (λ g. Meets g given)) (sym same) (record { met = solved.1; sound = λ g m. m; general = λ g m. m; later_to_earlier = solved.0 }))

-- Whether the variable occurs in the prefix.
test_there : (role role' : Role) (height : ℕ) (x y : Variable) (es : List (Event Term)) (b : Bool) → es ≡ prefix_of role' height → role' ≡ role → x ≡ y → b ≡ has_variable (variables_of_trace es) x → has_variable (variables_of_prefix role height) y ≡ b
test_there role role' height x y es b e same is test =
    ap (λ (r : Role). has_variable (variables_of_prefix r height) y) (sym same) ∙ ap (λ (fs : List (Event Term)). has_variable (variables_of_trace fs) y) (sym e) ∙ ap (has_variable (variables_of_trace es)) (sym is) ∙ sym test

-- The variable that is declared at a number.
abbrev pub variable_at : Declaration → ℕ → Variable
variable_at d n = record { sort = d.sort; number = n }

-- It is declared, and the test that was made of it says whether it occurs in the prefix.
pub at_declaration : (role role' : Role) (height n id : ℕ) (ds : List Declaration) (d : Declaration) (es : List (Event Term)) (b : Bool) → n < length ds → d ≡ get_or ds n d → ds ≡ role.variables → es ≡ prefix_of role' height → role' ≡ role →
    id ≡ n → b ≡ has_variable (variables_of_trace es) (variable_at d id) → IsDeclared role.variables (variable_at d n) × (has_variable (variables_of_prefix role height) (variable_at d n) ≡ b)
at_declaration role role' height n id ds d es b less is are prefix same numbered test =
    (subst (λ vs. IsDeclared vs (variable_at d n)) are (declared_there ds n d (variable_at d n) less is refl), test_there role role' height (variable_at d id) (variable_at d n) es b prefix same (ap (variable_at d) numbered) test)

-- The term of a variable in a list.
pub term_there : (ts us : List Term) (x y : Variable) (t : Term) → us ≡ ts → x ≡ y → t ≡ image_of_variable (substitution_by us) x → t ≡ image_of_variable (as_substitution (bindings_of ts)) y
term_there ts us x y t list is e = e ∙ ap (λ vs. image_of_variable (substitution_by vs) x) list ∙ ap (image_of_variable (substitution_by ts)) is ∙ sym (ap (λ (r : Substitution). image_of_variable r y) (bindings_are ts))
