-- Strands that become parts of others, variable by variable.
use Rattle.std.proofs.Common.{◌≡◌, ◌⊎◌, inl, inr, ℕ, ◌<◌, ◌≤◌, ◌+◌, List, length, get_or, sym, ap, ◌∙◌, subst, subst₂, eq-or-lt_of_le, arith}
use Rattle.std.specs.Prelude.{Option, Some, Bool, true, false}
use Rattle.cp_lists.specs.Lists.{item_at, IsIn}
use Rattle.cp_lists.proofs.Items.{item_of_read}
use Rattle.cp_model.specs.declared.variable.Variable.{Variable}
use Rattle.cp_model.specs.declared.variable.Declaration.{Declaration}
use Rattle.cp_model.specs.Term.{variable_term, Term, Substitution, apply_to}
use Rattle.cp_model.specs.Bindings.{as_substitution, bindings_of}
use Rattle.cp_model.specs.Values.{substitution_by}
use Rattle.cp_model.specs.Strand.{Role, prefix_of, variables_of_prefix}
use Rattle.cp_model.specs.Skeleton.{SkeletonStrand}
use Rattle.cp_model.specs.Same.{has_variable}
use Rattle.cp_model.proofs.SameTests.{variable_in, in_has_variable}
use Rattle.cp_model.specs.Declares.{DeclaresItsVariables}
use Rattle.cp_model.proofs.DeclaredPrefixes.{closed_prefix}
use Rattle.cp_model.specs.Problem.{declared_sort, IsDeclared}
use Rattle.cp_model.specs.Homomorphism.{SkeletonMap}
use Rattle.cp_model.proofs.DeclaredTerms.{bindings_are}
use Rattle.cp_model.proofs.DeclaredVariables.{declared_below}
use Rattle.cp_model.proofs.LawTerms.{term_composed}
use Rattle.cp_strand.specs.View.{InstanceData, instance_view}
use Rattle.cp_hom.specs.PartialMaps.{PartialMap, IsExtended, IsOfNoExtension, FindsMaps}
use Rattle.cp_hom.specs.Counterparts.{MakesValues, MakesPart}
use Rattle.cp_hom.specs.declared.partials.Partial.{Partial}
use Rattle.cp_hom.proofs.Agreed.{events_agreed, events_made}
use Rattle.cp_hom.proofs.Extended.{IsSoFar, finds_like, so_far_next, so_far_never, so_far_all}

-- ---- one variable of a prefix after the other

module _ (role : Role) (height : ℕ) (declares : DeclaresItsVariables role) (from to : List Term) (ds : List Declaration) (own : ds ≡ role.variables) (n : ℕ) where
  abbrev xs : List Variable
  xs = variables_of_prefix role height

  -- The map makes the value of a variable under the first terms its value under the others.
  abbrev MakesValue : Variable → SkeletonMap → Type 0
  MakesValue x f = apply_to f.terms (apply_to (substitution_by from) (variable_term x)) ≡ apply_to (substitution_by to) (variable_term x)

  -- It does so for all variables of the prefix from a number on.
  abbrev AllFrom : ℕ → SkeletonMap → Type 0
  AllFrom m f = MakesValues m (variables_of_prefix role height) f.terms (substitution_by from) (substitution_by to)

  declared : (x : Variable) → IsIn x xs → IsDeclared ds x
  declared x p = subst (λ (es : List Declaration). IsDeclared es x) (sym own) (closed_prefix role height declares x p)

  pub values_all : (given found : PartialMap) → length ds ≤ n → IsSoFar (AllFrom 0) (AllFrom n) given found → IsExtended (AllFrom 0) given found
  values_all given found done h =
      so_far_all (AllFrom 0) (AllFrom n) given found
      (λ f x p le. let l : x.number < length ds = declared_below ds x.number x.sort (declared x p) in absurd (omega (arith, l, le, done))) h

  module _ (d : Declaration) (l : n < length ds) (is : d ≡ get_or ds n d) (id : ℕ) (is_id : id ≡ n) (b : Bool) (test : b ≡ has_variable (variables_of_prefix role height) (record { sort = d.sort; number = id }))
      (given found : PartialMap) (h : IsSoFar (AllFrom 0) (AllFrom n) given found) where
    abbrev here : Variable
    here = record { sort = d.sort; number = id }

    -- A variable of the prefix from this number on is the one declared here, or a later one.
    here_or_later : (x : Variable) → IsIn x xs → n ≤ x.number → (here ≡ x) ⊎ (n + 1 ≤ x.number)
    here_or_later x p le = choose (eq-or-lt_of_le le)
      where
        choose : (n ≡ x.number) ⊎ (n < x.number) → (here ≡ x) ⊎ (n + 1 ≤ x.number)
        choose (inl same) =
            let e : Some d.sort ≡ Some x.sort = sym (ap declared_sort (item_of_read ds n d l is)) ∙ subst (λ (m : ℕ). declared_sort (item_at ds m) ≡ Some x.sort) (sym same) (declared x p) in
            let sort : d.sort ≡ x.sort = cc in
            let number : id ≡ x.number = is_id ∙ same in
            inl (λ i. record { sort = sort i; number = number i })
        choose (inr less) = inr (omega (arith, less))

    later : (f : SkeletonMap) → AllFrom n f → AllFrom (n + 1) f
    later f w x p le = w x p (omega (arith, le))

    -- The variable is not of the prefix.
    pub value_passed : b ≡ false → IsSoFar (AllFrom 0) (AllFrom (n + 1)) given found
    value_passed out = record {
      extends = h.extends;
      sound = λ f follows w. h.sound f follows (λ x p le. unless_here f x p w (here_or_later x p le));
      general = λ f follows w. let r = h.general f follows w in (r.0, later f r.1);
      consistent = h.consistent;
    }
      where
        unless_here : (f : SkeletonMap) (x : Variable) → IsIn x xs → AllFrom (n + 1) f → (here ≡ x) ⊎ (n + 1 ≤ x.number) → MakesValue x f
        unless_here f x p w (inl e) =
            let listed : IsIn here xs = subst (λ (y : Variable). IsIn y xs) (sym e) p in
            let c : false ≡ true = sym out ∙ test ∙ in_has_variable xs here listed in
            absurd cc
        unless_here f x p w (inr m) = w x p m

    -- The variable is of the prefix.
    module _ (into : b ≡ true) where
      first : (f : SkeletonMap) → AllFrom n f → MakesValue here f
      first f w = w here (variable_in xs here (sym test ∙ into)) (omega (arith, is_id))

      pub value_next : (next : PartialMap) → IsExtended (MakesValue here) found next → IsSoFar (AllFrom 0) (AllFrom (n + 1)) given next
      value_next next k =
          so_far_next (AllFrom 0) (AllFrom n) (MakesValue here) (AllFrom (n + 1)) given found next
          (λ f one w x p le. either f one w x p (here_or_later x p le)) first later h k
        where
          either : (f : SkeletonMap) → MakesValue here f → AllFrom (n + 1) f → (x : Variable) → IsIn x xs → (here ≡ x) ⊎ (n + 1 ≤ x.number) → MakesValue x f
          either f one w x p (inl e) = subst (λ (y : Variable). MakesValue y f) e one
          either f one w x p (inr m) = w x p m

      pub value_never : IsOfNoExtension (MakesValue here) found → IsOfNoExtension (AllFrom 0) given
      value_never k = so_far_never (AllFrom 0) (AllFrom n) (MakesValue here) given found first h k

-- ---- instances

-- An instance that becomes a part of another has values that become those of the other.
pub part_value : (f : Substitution) (i j : InstanceData) (x : Variable) → IsIn x (variables_of_prefix i.role i.height) → MakesPart f (instance_view i) (instance_view j) →
    apply_to f (apply_to (substitution_by i.values) (variable_term x)) ≡ apply_to (substitution_by j.values) (variable_term x)
part_value f i j x p h =
    subst₂ (λ (s t : Substitution). apply_to f (apply_to s (variable_term x)) ≡ apply_to t (variable_term x)) (bindings_are i.values) (bindings_are j.values)
    (sym (term_composed (as_substitution (bindings_of i.values)) f (variable_term x))
    ∙ events_agreed f (prefix_of i.role i.height) (as_substitution (bindings_of i.values)) (as_substitution (bindings_of j.values)) h.2 x p)

module _ (i j : InstanceData) (from to : SkeletonStrand) (is_from : instance_view i ≡ from) (is_to : instance_view j ≡ to)
    (role : Role) (height : ℕ) (vs ws : List Term) (is_role : role ≡ i.role) (is_height : height ≡ i.height) (are_vs : vs ≡ i.values) (are_ws : ws ≡ j.values) where
  abbrev s : Substitution
  s = as_substitution (bindings_of vs)

  abbrev t : Substitution
  t = as_substitution (bindings_of ws)

  -- The values of one become those of the other.
  abbrev Made : SkeletonMap → Type 0
  Made f = MakesValues 0 (variables_of_prefix role height) f.terms (substitution_by vs) (substitution_by ws)

  abbrev one : InstanceData
  one = record { role = role; height = height; values = vs }

  abbrev other : InstanceData
  other = record { role = j.role; height = j.height; values = ws }

  made_value : (f : SkeletonMap) → Made f → (x : Variable) → IsIn x (variables_of_prefix role height) → apply_to f.terms (apply_to s (variable_term x)) ≡ apply_to t (variable_term x)
  made_value f w x p =
      subst₂ (λ (q r : Substitution). apply_to f.terms (apply_to q (variable_term x)) ≡ apply_to r (variable_term x)) (sym (bindings_are vs)) (sym (bindings_are ws)) (w x p (omega arith))

  part_of_values : role ≡ j.role → height ≤ j.height → (given : PartialMap) (answer : Option Partial) → FindsMaps Made given answer → FindsMaps (λ f. MakesPart f.terms (instance_view one) (instance_view other)) given answer
  part_of_values same l given answer h =
      finds_like Made (λ f. MakesPart f.terms (instance_view one) (instance_view other)) given answer
      (λ f w. (same, l, events_made f.terms (prefix_of role height) s t (λ x p. term_composed s f.terms (variable_term x) ∙ made_value f w x p)))
      (λ f w x p _. part_value f.terms one other x p w) h

  one_is : instance_view one ≡ from
  one_is =
      let same : one ≡ i = λ k. record { role = is_role k; height = is_height k; values = are_vs k } in
      ap (λ (d : InstanceData). instance_view d) same ∙ is_from

  other_is : instance_view other ≡ to
  other_is =
      let same : other ≡ j = λ k. record { role = j.role; height = j.height; values = are_ws k } in
      ap (λ (d : InstanceData). instance_view d) same ∙ is_to

  pub part_by_values : role ≡ j.role → height ≤ j.height → (given : PartialMap) (answer : Option Partial) → FindsMaps Made given answer → FindsMaps (λ f. MakesPart f.terms from to) given answer
  part_by_values same l given answer h =
      subst₂ (λ (d e : SkeletonStrand). FindsMaps (λ f. MakesPart f.terms d e) given answer) one_is other_is (part_of_values same l given answer h)

  -- Where the value of a variable of the prefix never becomes that of the other.
  pub value_apart : (x : Variable) (b : Bool) → b ≡ has_variable (variables_of_prefix role height) x → b ≡ true → (given : PartialMap) →
      IsOfNoExtension (λ f. apply_to f.terms (apply_to (substitution_by vs) (variable_term x)) ≡ apply_to (substitution_by ws) (variable_term x)) given →
      IsOfNoExtension (λ f. MakesPart f.terms from to) given
  value_apart x b test into given never = λ f follows w.
      never f follows
      (part_value f.terms one other x (variable_in (variables_of_prefix role height) x (sym test ∙ into))
      (subst₂ (λ (d e : SkeletonStrand). MakesPart f.terms d e) (sym one_is) (sym other_is) w))
