-- Strands that are made high enough, or added, with new variables.
use Rattle.std.proofs.Common.{◌≡◌, ℕ, suc, ◌<◌, ◌≤◌, List, [], ◌∷◌, ◌++◌, length, true, refl, sym, ap, ◌∙◌, subst, arith, inl, inr}
use Rattle.cp_lists.specs.Lists.{item_at}
use Rattle.cp_model.specs.Term.{Term, variable_term}
use Rattle.cp_model.specs.Bindings.{bindings_of}
use Rattle.cp_model.specs.declared.sort.Sort.{Sort}
use Rattle.cp_model.specs.declared.sort.Sort.TheVariants.{Text as text_sort, Datum as datum_sort, Name as name_sort, Skey as skey_sort, Akey as akey_sort}
use Rattle.cp_model.specs.declared.variable.Variable.{Variable}
use Rattle.cp_model.specs.Strand.{Role}
use Rattle.cp_model.specs.declared.variable.Declaration.{Declaration}
use Rattle.cp_model.specs.Skeleton.{Skeleton}
use Rattle.cp_strand.specs.View.{InstanceData}
use Rattle.cp_model.specs.PrefixVariables.{prefix_variables, added_variables, fits, AreTermsFor}
use Rattle.cp_model.specs.Extensions.{AddsStrand, CanExtend, Extends}
use Rattle.cp_skel.proofs.ValuedTerms.{all-added}
use Rattle.cp_theory.specs.Fresh.{fresh_terms}
use Rattle.cp_cohort.specs.CoveringChildren.{declarations_among, HasGrown}
use Rattle.cp_skel.specs.Tables.{DiffersInTable}
use Rattle.cp_cohort.specs.Children.{IsThere, IsGrown, AddsRoleStrand}
use Rattle.cp_cohort.specs.Cohort.{GuardedTest}
use Rattle.cp_cohort.proofs.OtherTables.{extends_other, strand_other}

-- New variables are of the sorts of those whose places they take.
fits_its_sort : (s : Sort) (n : ℕ) → fits s (variable_term (record { sort = s; number = n })) ≡ true
fits_its_sort text_sort n = refl
fits_its_sort datum_sort n = refl
fits_its_sort name_sort n = refl
fits_its_sort skey_sort n = refl
fits_its_sort akey_sort n = refl

fresh_fit : (n : ℕ) (xs : List Variable) → AreTermsFor xs (fresh_terms n xs)
fresh_fit n [] = tt
fresh_fit n (x ∷ xs) = (fits_its_sort x.sort n, fresh_fit (suc n) xs)

pub values_fit : (n : ℕ) (xs : List Variable) (values : List Term) → values ≡ fresh_terms n xs → AreTermsFor xs values
values_fit n xs values e = subst (AreTermsFor xs) (sym e) (fresh_fit n xs)

module _ (k : Skeleton) (h : ℕ) where
  module _ (declared : Skeleton) (rest : DiffersInTable k declared) where
    module _ (s : ℕ) (i : InstanceData) (there : IsThere k s i) (values : List Term) (are : values ≡ fresh_terms (length k.variables) (added_variables i.role i.height h)) (above : i.height ≤ h) where
      pub can_extend : h ≤ length i.role.trace → CanExtend declared s h values
      can_extend reached = record {
        role = i.role;
        before = i.height;
        terms = bindings_of i.values;
        on_instance = ap (λ (l : Skeleton). item_at l.strands s) rest ∙ there;
        higher = above;
        reached = reached;
        fitting = values_fit (length k.variables) (added_variables i.role i.height h) values are;
      }

      pub grown_by : i.height < h → (j : ℕ) → h ≡ suc j → (grown : Skeleton) → declared.variables ≡ k.variables ++ declarations_among i.role (added_variables i.role i.height h) → Extends s h values declared grown →
          grown.variables ≡ declared.variables → HasGrown s i.role i.height j k grown
      grown_by higher j is grown more extends kept =
          let vs : List Declaration = k.variables in
          let terms : values ≡ fresh_terms (length vs) (added_variables i.role i.height (suc j)) = are ∙ ap (λ (m : ℕ). fresh_terms (length vs) (added_variables i.role i.height m)) is in
          let more_of : grown.variables ≡ vs ++ declarations_among i.role (added_variables i.role i.height (suc j)) =
          kept ∙ more ∙ ap (λ (m : ℕ). vs ++ declarations_among i.role (added_variables i.role i.height m)) is in
          let one : Extends s h values k grown = extends_other s h values k grown declared.variables (subst (λ (l : Skeleton). Extends s h values l grown) rest extends) in
          let two : Extends s (suc j) values k grown = subst (λ (m : ℕ). Extends s m values k grown) is one in
          record { how = inr (omega (arith, higher, is), more_of, subst (λ (us : List Term). Extends s (suc j) us k grown) terms two) }

    module _ (role : Role) (values : List Term) (are : values ≡ fresh_terms (length k.variables) (added_variables role 0 h)) where
      pub terms_fit : AreTermsFor (prefix_variables role h) values
      terms_fit = subst (λ xs. AreTermsFor xs values) (all-added role h) (values_fit (length k.variables) (added_variables role 0 h) values are)

      pub added_by : (grown : Skeleton) → AddsStrand role h values declared grown → AddsStrand role h (fresh_terms (length k.variables) (prefix_variables role h)) k grown
      added_by grown adds =
          let terms : values ≡ fresh_terms (length k.variables) (prefix_variables role h) = are ∙ ap (fresh_terms (length k.variables)) (all-added role h) in
          let one : AddsStrand role h values k grown = strand_other role h values k grown declared.variables (subst (λ (l : Skeleton). AddsStrand role h values l grown) rest adds) in
          subst (λ (us : List Term). AddsStrand role h us k grown) terms one

      pub declared_by : (grown : Skeleton) → declared.variables ≡ k.variables ++ declarations_among role (added_variables role 0 h) → grown.variables ≡ declared.variables →
          grown.variables ≡ k.variables ++ declarations_among role (prefix_variables role h)
      declared_by grown more kept = kept ∙ more ∙ ap (λ xs. k.variables ++ declarations_among role xs) (all-added role h)

  -- A strand that is high enough stays as it is.
  pub high_enough : (s : ℕ) (i : InstanceData) → h ≤ i.height → (j : ℕ) → h ≡ suc j → HasGrown s i.role i.height j k k
  high_enough s i below j is = record { how = inl (omega (arith, below, is), refl) }

-- What has grown in a copy of a test's skeleton, or was added there.
module _ (q : GuardedTest) (copied : Skeleton) (same : copied ≡ q.skeleton) (grown : Skeleton) where
  abbrev k : Skeleton
  k = q.skeleton

  pub grown_in_copy : (s : ℕ) (role : Role) (height j : ℕ) → HasGrown s role height j copied grown → IsGrown q s role height j grown
  grown_in_copy s role height j grows = record { grows = subst (λ (l : Skeleton). HasGrown s role height j l grown) same grows }

  pub added_in_copy : (role : Role) (h j : ℕ) → h ≡ suc j → AddsStrand role h (fresh_terms (length copied.variables) (prefix_variables role h)) copied grown →
      grown.variables ≡ copied.variables ++ declarations_among role (prefix_variables role h) → AddsRoleStrand q role j grown
  added_in_copy role h j is adds more =
      let one : AddsStrand role h (fresh_terms (length k.variables) (prefix_variables role h)) k grown =
      subst (λ (l : Skeleton). AddsStrand role h (fresh_terms (length l.variables) (prefix_variables role h)) l grown) same adds in
      record {
        adds = subst (λ (m : ℕ). AddsStrand role m (fresh_terms (length k.variables) (prefix_variables role m)) k grown) is one;
        variables = more ∙ ap (λ (l : Skeleton). l.variables ++ declarations_among role (prefix_variables role h)) same ∙ ap (λ (m : ℕ). k.variables ++ declarations_among role (prefix_variables role m)) is;
      }
