-- The trees of one label, which is the problem itself, can be stated.
use Rattle.std.proofs.Common.{◌≡◌, ℕ, zero, suc, ◌+◌, ◌<◌, ◌^◌, List, [], ◌∷◌, ◌++◌, length, refl, sym, ap, ◌∙◌, subst, arith, ⊎_elim}
use Rattle.std.specs.Prelude.{Some}
use Rattle.std.proofs.lemmas.List.{append-nil}
use Rattle.cp_lists.specs.Lists.{item_at, IsIn, here, there}
use Rattle.cp_lists.proofs.Members.{in_append, only_item}
use Rattle.cp_model.specs.Senders.{ArePaired}
use Rattle.cp_model.specs.Term.{variables_of, variable_term}
use Rattle.cp_model.specs.declared.variable.Variable.{Variable}
use Rattle.cp_model.specs.declared.variable.Declaration.{Declaration}
use Rattle.cp_model.specs.Problem.{variable_terms, declared_sort, IsDeclared, variables_of_skeleton}
use Rattle.cp_model.specs.PointOfView.{IsPointOfView}
use Rattle.cp_model.specs.Tree.{Label}
use Rattle.cp_model.proofs.SingleMaps.{states_itself}
use Rattle.cp_model.proofs.StatedItself.{keeps_its_own}
use Rattle.cp_model.proofs.NumbersFrom.{numbers_length}
use Rattle.cp_sexpr.specs.Syntax.{Forms}
use Rattle.cp_language.specs.Report.{variables_of_terms, occurring}
use Rattle.cp_language.specs.Problems.{Problem}
use Rattle.cp_language.specs.Input.{faults_of, Entry, stated, input_of}
use Rattle.cp_language.specs.Example.{example_input}
use Rattle.cp_language.proofs.Problems.{are_skeletons, have_their_variables, map_to_themselves}
use Rattle.cp_language.proofs.Example.{is_well_formed}
use Rattle.cp_report.specs.FittingTrees.{HasSortOf, FitsIn, TreeFits, problems_in}
use Rattle.cp_report.specs.Laws.{CanBeStated}
use Rattle.cp_report.specs.Example.{own_label, own_tree, own_trees}
use Rattle.cp_report.proofs.PrintedStrands.{variable_sorted}
use Rattle.cp_report.proofs.LabelRead.{paired_map}
use Rattle.cp_report.proofs.Premises.{problem_listed}
use Rattle.cp_report.proofs.Inverses.{only_variable}

-- ---- the terms of variables

their_sorts : (n : ℕ) (ds : List Declaration) → ArePaired HasSortOf ds (variable_terms n ds)
their_sorts n [] = tt
their_sorts n (d ∷ ds) = (variable_sorted d.sort n, their_sorts (suc n) ds)

-- Variables of these terms are declared.
declared_from : (n : ℕ) (ds : List Declaration) (x : Variable) → IsIn x (variables_of_terms (variable_terms n ds)) → (i : ℕ) × (x.number ≡ n + i) × (declared_sort (item_at ds i) ≡ Some x.sort)
declared_from n [] x m = elim m [ ]
declared_from n (d ∷ ds) x m = ⊎_elim first (λ i. let r = declared_from (suc n) ds x i in (suc r.0, omega (arith, r.1), r.2)) (in_append (variables_of (variable_term (record { sort = d.sort; number = n }))) (variables_of_terms (variable_terms (suc n) ds)) m)
  where
    first : IsIn x (variables_of (variable_term (record { sort = d.sort; number = n }))) → (i : ℕ) × (x.number ≡ n + i) × (declared_sort (item_at (d ∷ ds) i) ≡ Some x.sort)
    first i =
        let same = only_item (subst (λ (xs : List Variable). IsIn x xs) (only_variable d.sort n) i) in
        let at : x.number ≡ n = ap (λ (y : Variable). y.number) same in
        (0, omega (arith, at), ap (λ (y : Variable). Some y.sort) (sym same))

terms_declared : (ds : List Declaration) (x : Variable) → IsIn x (variables_of_terms (variable_terms 0 ds)) → IsDeclared ds x
terms_declared ds x m =
    let r = declared_from 0 ds x m in
    let at : x.number ≡ r.0 = omega (arith, r.1) in
    ap (λ (n : ℕ). declared_sort (item_at ds n)) at ∙ r.2

-- ---- one problem

module _ (input : Forms) (well_formed : faults_of input ≡ []) (e : Entry) (listed : IsIn e (input_of input)) (p : Problem) (at : stated e ≡ Some p) (few : length p.variables < 2 ^ 64) where
  own : IsPointOfView p.variables p.skeleton
  own = map_to_themselves input e p well_formed listed at

  own_variables : p.skeleton.variables ≡ p.variables
  own_variables = have_their_variables input e p well_formed listed at

  all_declared : (x : Variable) → IsIn x (occurring (own_label p)) → IsDeclared p.variables x
  all_declared x m =
      ⊎_elim (λ i. own.closed x i) (λ i. terms_declared p.variables x (subst (λ ts. IsIn x (variables_of_terms ts)) own.values i))
      (in_append (variables_of_skeleton p.skeleton) (variables_of_terms p.skeleton.from_problem.values) (subst (λ xs. IsIn x xs) (append-nil (whole ++ []) ∙ append-nil whole) m))
    where
      whole : List Variable
      whole = variables_of_skeleton p.skeleton ++ variables_of_terms p.skeleton.from_problem.values

  own_fits : FitsIn p (own_label p ∷ []) 0 (own_label p)
  own_fits = record {
    variables = record {
      later = [];
      variables = own_variables ∙ sym (append-nil p.variables);
      declared = λ x m. subst (λ ds. IsDeclared ds x) (sym own_variables) (all_declared x m);
    };
    few = subst (λ ds. length ds < 2 ^ 64) (sym own_variables) few;
    stated = keeps_its_own p.variables p.skeleton (states_itself own);
    consistent = record {
      skeleton = are_skeletons input e p well_formed listed at;
      maps_all = record {
        strands = ap length own.strands ∙ numbers_length 0 p.skeleton.strands;
        values = subst (λ ts. ArePaired HasSortOf p.variables ts) (sym own.values) (their_sorts 0 p.variables);
      };
      operation = tt;
      parent = refl;
      unrealised = λ n i. elim i [ ];
      test = tt;
      patterns = λ q i. elim i [ ];
      escape = λ t. refl;
      children = record { each = λ n i. elim i [ ]; once = λ a b n g h. absurd (cc) };
      mark = (tt, refl);
    };
  }

  own_tree_fits : TreeFits p (own_tree p)
  own_tree_fits zero l q = let same : own_label p ≡ l = cc in subst (λ (m : Label). FitsIn p (own_label p ∷ []) 0 m) same own_fits
  own_tree_fits (suc i) l q = absurd (cc)

-- ---- all problems

-- They can be stated, where no problem has too many variables.
own_stated : (input : Forms) → faults_of input ≡ [] → ((p : Problem) → IsIn p (problems_in (input_of input)) → length p.variables < 2 ^ 64) → CanBeStated input (own_trees input)
own_stated input well_formed few = record {
  well_formed = well_formed;
  fit = paired_map TreeFits own_tree (problems_in (input_of input)) (λ p m. let r = problem_listed (input_of input) p m in own_tree_fits input well_formed r.0 r.1 p r.2 (few p m));
}

-- Those of the example.
pub example_stated : CanBeStated example_input (own_trees example_input)
example_stated = own_stated example_input is_well_formed few
  where
    few : (p : Problem) → IsIn p (problems_in (input_of example_input)) → length p.variables < 2 ^ 64
    few p here = omega arith
    few p (there i) = elim i [ ]
