-- The skeleton of a label form as it is printed is read back as the same skeleton, and what states it fits.
use Rattle.std.proofs.Common.{◌≡◌, ℕ, suc, ◌+◌, ◌<◌, ◌≤◌, ◌^◌, List, [], ◌∷◌, ◌++◌, length, Bool, true, false, refl, sym, ap, ◌∙◌, subst, arith}
use Rattle.std.specs.Prelude.{Some, map, if◌then◌else◌}
use Rattle.std.proofs.lemmas.List.{length-append}
use Rattle.cp_base.specs.declared.place.Place.{Place}
use Rattle.cp_lists.specs.Lists.{item_at, IsIn}
use Rattle.cp_lists.proofs.Members.{in_append_left, in_append_right}
use Rattle.cp_model.specs.Senders.{ArePaired}
use Rattle.cp_model.specs.Term.{variables_of, variable_term, Term, apply_to}
use Rattle.cp_model.specs.Bindings.{Binding, as_substitution}
use Rattle.cp_model.specs.declared.variable.Variable.{Variable}
use Rattle.cp_model.specs.Strand.{event_map, Role, prefix_of, variables_of_trace, IsHeight}
use Rattle.cp_model.specs.declared.strand.Event.{Event}
use Rattle.cp_model.specs.declared.strand.Event.TheVariants.{Send as send}
use Rattle.cp_model.specs.declared.variable.Declaration.{Declaration}
use Rattle.cp_model.specs.Problem.{variables_of_strands}
use Rattle.cp_model.specs.Skeleton.{SkeletonStrand, instance, listener, skeleton_trace}
use Rattle.cp_model.specs.Tree.{Label}
use Rattle.cp_sexpr.specs.Syntax.{Form}
use Rattle.cp_language.specs.Names.{behind, free_name, has_number, later_names, label_names}
use Rattle.cp_language.specs.Report.{occurring, named_by, strand_form, HasItsVariables}
use Rattle.cp_language.specs.Problems.{Problem}
use Rattle.cp_report.specs.Misfits.{each_misfits}
use Rattle.cp_report.specs.Spelled.{Scope}
use Rattle.cp_report.specs.Skeletons.{strand_misfits, strand_of}
use Rattle.cp_report.specs.UpToNames.{renamed, renaming, IsSameStrandUnder}
use Rattle.cp_report.proofs.SpelledTerms.{StandsFor}
use Rattle.cp_report.proofs.DistinctNames.{AreDifferent, DifferWhereOccurring, names_different}
use Rattle.cp_report.proofs.PrintedVariables.{renumbered, occurring_from, name_stands}
use Rattle.cp_report.proofs.PrintedStrands.{IsFound, StandIn, RoleFits, strand_fits, strand_back}

-- ---- names

later_as_many : (taken : List (List ℕ)) (occurs : List Variable) (n : ℕ) (ds : List Declaration) → length (later_names taken occurs n ds) ≡ length ds
later_as_many taken occurs n [] = refl
later_as_many taken occurs n (d ∷ ds) = by (has_number occurs n) (later_as_many (taken ++ x ∷ []) occurs (suc n) ds) (later_as_many taken occurs (suc n) ds)
  where
    x : List ℕ
    x = free_name taken d.identifier

    by : (b : Bool) → length (later_names (taken ++ x ∷ []) occurs (suc n) ds) ≡ length ds → length (later_names taken occurs (suc n) ds) ≡ length ds
        → length (if b then x ∷ later_names (taken ++ x ∷ []) occurs (suc n) ds else [] ∷ later_names taken occurs (suc n) ds) ≡ suc (length ds)
    by true e f = ap suc e
    by false e f = ap suc f

behind_first : {A : Type 0} (xs ys : List A) → behind (length xs) (xs ++ ys) ≡ ys
behind_first [] ys = refl
behind_first (x ∷ xs) ys = behind_first xs ys

module _ (p : Problem) (l : Label) (has : HasItsVariables p l) (of_problem : List (List ℕ)) (as_many : length of_problem ≡ length p.variables) where
  abbrev names : List (List ℕ)
  names = label_names of_problem (occurring l) l.skeleton.variables

  later_are : behind (length of_problem) l.skeleton.variables ≡ has.later
  later_are = ap (λ (n : ℕ). behind n l.skeleton.variables) as_many ∙ ap (behind (length p.variables)) has.variables ∙ behind_first p.variables has.later

  whole : length of_problem + length (behind (length of_problem) l.skeleton.variables) ≡ length l.skeleton.variables
  whole =
      ap (λ (ds : List Declaration). length of_problem + length ds) later_are
      ∙ ap (λ (n : ℕ). n + length has.later) as_many
      ∙ sym (length-append p.variables has.later) ∙ ap length (sym has.variables)

  -- There is a name for each variable.
  pub names_as_many : length names ≡ length l.skeleton.variables
  names_as_many =
      length-append of_problem (later_names of_problem (occurring l) (length of_problem) (behind (length of_problem) l.skeleton.variables))
      ∙ ap (λ (n : ℕ). length of_problem + n) (later_as_many of_problem (occurring l) (length of_problem) (behind (length of_problem) l.skeleton.variables)) ∙ whole

  module _ (small : length l.skeleton.variables < 2 ^ 64) (apart : AreDifferent of_problem) where
    pub names_differ : DifferWhereOccurring (occurring l) names
    names_differ = names_different (occurring l) of_problem l.skeleton.variables (subst (λ (n : ℕ). n < 2 ^ 64) (sym whole) small) apart

    -- The name of each variable that occurs in the label form stands for it.
    pub each_stands : (s : Scope) → s.variables ≡ occurring_from (occurring l) names 0 l.skeleton.variables → (x : Variable) → IsIn x (occurring l) → StandsFor s (named_by names x) (renamed (renumbered (occurring l)) x)
    each_stands s same x m =
        let enough : length l.skeleton.variables ≤ length names = omega (arith, names_as_many) in
        name_stands (occurring l) names names_differ s l.skeleton.variables x same enough m (has.declared x m)

-- ---- strands

-- The variables of what a substitution gives a variable of a trace occur in the trace under it.
abbrev pub IsUnder : Type 0
IsUnder = (terms : List Binding) (x y : Variable) → IsIn y (variables_of (apply_to (as_substitution terms) (variable_term x))) → (es : List (Event Term)) → IsIn x (variables_of_trace es) → IsIn y (variables_of_trace (map (event_map (apply_to (as_substitution terms))) es))

module _ (under : IsUnder) (roles : List Role) (s : Scope) (named : Variable → Form) (number : Variable → ℕ) where
  stand_in : (k : SkeletonStrand) → ((x : Variable) → IsIn x (variables_of_trace (skeleton_trace k)) → StandsFor s (named x) (renamed number x)) → StandIn s named number k
  stand_in (instance role height terms) h = λ x m y n. h y (under terms x y n (prefix_of role height) m)
  stand_in (listener t) h = λ x m. h x (in_append_left (variables_of_trace (send t ∷ [])) m)

  -- each instance's role is found
  abbrev pub AreFoundRoles : List SkeletonStrand → Type 0
  AreFoundRoles ks = (n : ℕ) (role : Role) (height : ℕ) (terms : List Binding) → item_at ks n ≡ Some (instance role height terms) → IsFound roles role height × IsHeight role height

  role_fits : (k : SkeletonStrand) (ks : List SkeletonStrand) → AreFoundRoles (k ∷ ks) → RoleFits roles k
  role_fits (instance role height terms) ks found = found 0 role height terms refl
  role_fits (listener t) ks found = tt

  -- Strands as they are printed fit,
  pub all_strands_fit : (ks : List SkeletonStrand) → AreFoundRoles ks → ((x : Variable) → IsIn x (variables_of_strands ks) → StandsFor s (named x) (renamed number x)) → each_misfits (strand_misfits roles s) (map (strand_form named) ks) ≡ []
  all_strands_fit [] found h = refl
  all_strands_fit (k ∷ ks) found h =
      ap (λ (ps : List Place). ps ++ each_misfits (strand_misfits roles s) (map (strand_form named) ks))
      (strand_fits roles s named number k (role_fits k ks found) (stand_in k (λ x m. h x (in_append_left (variables_of_strands ks) m))))
      ∙ all_strands_fit ks (λ n role height terms e. found (suc n) role height terms e) (λ x m. h x (in_append_right (variables_of_trace (skeleton_trace k)) m))

  -- and are read back as the same.
  pub all_strands_back : (ks : List SkeletonStrand) → AreFoundRoles ks → ((x : Variable) → IsIn x (variables_of_strands ks) → StandsFor s (named x) (renamed number x))
      → ArePaired (IsSameStrandUnder (renaming number)) ks (map (strand_of roles s) (map (strand_form named) ks))
  all_strands_back [] found h = tt
  all_strands_back (k ∷ ks) found h = (
    strand_back roles s named number k (role_fits k ks found) (stand_in k (λ x m. h x (in_append_left (variables_of_strands ks) m))),
    all_strands_back ks (λ n role height terms e. found (suc n) role height terms e) (λ x m. h x (in_append_right (variables_of_trace (skeleton_trace k)) m)),
  )
