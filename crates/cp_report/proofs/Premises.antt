-- What is used of labels that are printed holds of those that fit, for the problems of well-formed input.
use Rattle.std.proofs.Common.{◌≡◌, ℕ, zero, suc, ◌+◌, ◌<◌, ◌^◌, List, [], ◌∷◌, ◌++◌, length, refl, sym, ap, ◌∙◌, arith}
use Rattle.cp_model.specs.Bindings.{as_substitution}
use Rattle.std.specs.Prelude.{Option, Some, None}
use Rattle.std.proofs.lemmas.List.{length-append}
use Rattle.cp_lists.specs.Lists.{item_at, IsIn, here, there}
use Rattle.cp_lists.proofs.Members.{in_append_left, in_append_right}
use Rattle.cp_model.specs.Senders.{ArePaired}
use Rattle.cp_model.specs.declared.variable.Variable.{Variable}
use Rattle.cp_model.specs.Strand.{Role}
use Rattle.cp_model.specs.declared.variable.Declaration.{Declaration}
use Rattle.cp_model.specs.Problem.{variables_of_strands, variables_of_atoms, variables_of_uniques}
use Rattle.cp_model.specs.PointOfView.{IsPointOfView}
use Rattle.cp_model.specs.Skeleton.{Skeleton}
use Rattle.cp_model.specs.Tree.{Label, Tree}
use Rattle.cp_model.proofs.LawPrefixes.{in_front_of_trace}
use Rattle.cp_model.proofs.OccurringVariables.{in_trace_under, in_atoms, in_uniques}
use Rattle.cp_model.proofs.UnderVariables.{applies_at}
use Rattle.cp_sexpr.specs.Syntax.{Forms}
use Rattle.cp_language.specs.Names.{identifiers_in, first_of, problem_names}
use Rattle.cp_language.specs.Terms.{variable_named}
use Rattle.cp_language.specs.Problems.{Problem}
use Rattle.cp_language.specs.Input.{faults_of, Entry, stated, input_of}
use Rattle.cp_language.proofs.Problems.{map_to_themselves, roles_are_well_formed, roles_found, variables_found}
use Rattle.cp_report.specs.UpToNames.{IsReport}
use Rattle.cp_report.specs.FittingTrees.{FitsIn, TreeFits, problem_onto, problems_in}
use Rattle.cp_report.specs.Laws.{ArePrinted, CanBeStated}
use Rattle.cp_report.proofs.DistinctNames.{AreDifferent, problem_different}
use Rattle.cp_report.proofs.PrintedStrands.{IsFound}
use Rattle.cp_report.proofs.OwnStated.{AreOver}
use Rattle.cp_report.proofs.SkeletonRead.{IsUnder}
use Rattle.cp_report.proofs.LabelSkeleton.{PrintedLabel}
use Rattle.cp_report.proofs.SkeletonFits.{AppliesWhole}
use Rattle.cp_report.proofs.TreeFits.{tree_fits, tree_back}
use Rattle.cp_report.proofs.ReportFits.{Reads, is_report}

-- ---- in general

pub under_all : IsUnder
under_all terms x y i es m = in_trace_under (as_substitution terms) es x y m i

pub applies_whole : AppliesWhole
applies_whole role height v i a = applies_at role height v i a

-- ---- names

first_declared : (n : ℕ) (ds : List Declaration) (i : ℕ) (t : List ℕ) → item_at (identifiers_in (first_of n ds)) i ≡ Some t → (d : Declaration) × (i < n) × (item_at ds i ≡ Some d) × (d.identifier ≡ t)
first_declared zero ds i t e = absurd (cc)
first_declared (suc n) [] i t e = absurd (cc)
first_declared (suc n) (d ∷ ds) zero t e = let same : d.identifier ≡ t = cc in (d, omega arith, refl, same)
first_declared (suc n) (d ∷ ds) (suc i) t e = let r = first_declared n ds i t e in (r.0, omega (arith, r.1), r.2, r.3)

-- Identifiers that name their own variables are different.
pub first_different : (declared : ℕ) (ds : List Declaration) → ((n : ℕ) (d : Declaration) → n < declared → item_at ds n ≡ Some d → variable_named ds d.identifier ≡ Some (record { sort = d.sort; number = n }))
    → AreDifferent (identifiers_in (first_of declared ds))
first_different declared ds own i j t e f =
    let a = first_declared declared ds i t e in
    let b = first_declared declared ds j t f in
    same_number (sym (own i a.0 a.1 a.2) ∙ ap (variable_named ds) (a.3 ∙ sym b.3) ∙ own j b.0 b.1 b.2)
  where
    same_number : {x y : Variable} → Some x ≡ Some y → x.number ≡ y.number
    same_number h = let g = h in cc

-- ---- one problem

module _ (p : Problem) (own : IsPointOfView p.variables p.skeleton) where
  abbrev k : Skeleton
  k = p.skeleton

  own_over : AreOver p.variables p.skeleton.from_problem.assumptions
  own_over = record {
    non = λ v m x i. own.closed x (in_append_right (variables_of_strands k.strands) (in_append_left (variables_of_uniques k.assumptions.uniquely_originating)
        (in_append_left (variables_of_atoms k.assumptions.penetrator_non_originating) (in_atoms k.assumptions.non_originating v x (own.assumed.non v m) i))));
    penetrator_non = λ v m x i. own.closed x (in_append_right (variables_of_strands k.strands) (in_append_left (variables_of_uniques k.assumptions.uniquely_originating)
        (in_append_right (variables_of_atoms k.assumptions.non_originating) (in_atoms k.assumptions.penetrator_non_originating v x (own.assumed.penetrator_non v m) i))));
    unique = λ u m x i. own.closed x (in_append_right (variables_of_strands k.strands)
        (in_append_right (variables_of_atoms k.assumptions.non_originating ++ variables_of_atoms k.assumptions.penetrator_non_originating) (in_uniques k.assumptions.uniquely_originating u x (own.assumed.unique u m) i)));
  }

module _ (input : Forms) (well_formed : faults_of input ≡ []) (e : Entry) (listed : IsIn e (input_of input)) (p : Problem) (at : stated e ≡ Some p) where
  role_is_found : (role : Role) (height : ℕ) → IsIn role p.protocol.roles → IsFound p.protocol.roles role height
  role_is_found role height m =
      let r = roles_are_well_formed input e p role well_formed listed at m in
      record { named = roles_found input e p role well_formed listed at m; own = r.identifiers; declared = λ x i. r.trace x (in_front_of_trace height role.trace x i) }

  names_differ : length p.variables < 2 ^ 64 → AreDifferent (problem_names p.declared p.variables)
  names_differ few = problem_different p.declared p.variables few (first_different p.declared p.variables (λ n d less there_is. variables_found input e p n d well_formed listed at less there_is))

  -- A label that fits is one that can be printed.
  label_printed : (labels : List Label) (i : ℕ) (l : Label) → FitsIn p labels i l → PrintedLabel p l
  label_printed labels i l fit = record {
    names_differ = names_differ fewer;
    small = fit.few;
    variables = fit.variables;
    skeleton = fit.consistent.skeleton;
    maps_all = fit.consistent.maps_all;
    stated = fit.stated;
    roles = role_is_found;
    own = own_over p (map_to_themselves input e p well_formed listed at);
  }
    where
      fewer : length p.variables < 2 ^ 64
      fewer =
          let many : length l.skeleton.variables ≡ length p.variables + length fit.variables.later = ap length fit.variables.variables ∙ length-append p.variables fit.variables.later in
          let few = fit.few in
          omega (arith, many, few)

  -- Trees that fit are read back.
  tree_reads : (t : Tree) → TreeFits p t → Reads p t
  tree_reads t fit = record {
    fits = λ next. tree_fits under_all applies_whole p t fit (λ i l at_i. label_printed t.labels i l (fit i l at_i)) next;
    back = tree_back under_all applies_whole p t fit (λ i l at_i. label_printed t.labels i l (fit i l at_i));
  }

-- ---- all problems

pub problem_listed : (es : List Entry) (p : Problem) → IsIn p (problems_in es) → (e : Entry) × IsIn e es × (stated e ≡ Some p)
problem_listed [] p m = elim m [ ]
problem_listed (e ∷ es) p m = by (stated e) refl m (problem_listed es p)
  where
    first : {q : Problem} {qs : List Problem} {A : Type 0} → IsIn p (q ∷ qs) → (p ≡ q → A) → (IsIn p qs → A) → A
    first here f g = f refl
    first (there i) f g = g i

    behind : (f : Entry) × IsIn f es × (stated f ≡ Some p) → (f : Entry) × IsIn f (e ∷ es) × (stated f ≡ Some p)
    behind r = (r.0, there r.1, r.2)

    by : (o : Option Problem) → stated e ≡ o → IsIn p (problem_onto o (problems_in es)) → (IsIn p (problems_in es) → (f : Entry) × IsIn f es × (stated f ≡ Some p)) → (f : Entry) × IsIn f (e ∷ es) × (stated f ≡ Some p)
    by None q i rest = behind (rest i)
    by (Some r) q i rest = first i (λ same. (e, here, q ∙ ap Some (sym same))) (λ j. behind (rest j))

paired_with : {A B : Type 0} (R S : A → B → Type 0) (xs : List A) (ys : List B) → ArePaired R xs ys → ((x : A) → IsIn x xs → (y : B) → R x y → S x y) → ArePaired S xs ys
paired_with R S [] [] h step = tt
paired_with R S [] (y ∷ ys) h step = absurd h
paired_with R S (x ∷ xs) [] h step = absurd h
paired_with R S (x ∷ xs) (y ∷ ys) h step = (step x here y h.0, paired_with R S xs ys h.1 (λ z m w r. step z (there m) w r))

-- All trees that fit are read back.
trees_read : (input : Forms) (trees : List Tree) → CanBeStated input trees → ArePaired Reads (problems_in (input_of input)) trees
trees_read input trees can =
    paired_with TreeFits Reads (problems_in (input_of input)) trees can.fit
    (λ p m t fit. let r = problem_listed (input_of input) p m in tree_reads input can.well_formed r.0 r.1 p r.2 t fit)

-- What is printed for an input and its trees is read back as the same input and the same trees.
pub reads_back : (input : Forms) (trees : List Tree) (fs : Forms) → CanBeStated input trees → ArePrinted fs input trees → IsReport fs (record { entries = input_of input; trees = trees })
reads_back input trees fs can same = is_report input trees can.well_formed (trees_read input trees can) fs same
