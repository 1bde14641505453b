-- What a label form as it is printed states of its skeleton fits.
use Rattle.std.proofs.Common.{◌≡◌, ℕ, suc, ◌<◌, ◌≤◌, List, [], ◌∷◌, ◌++◌, length, Bool, true, refl, ap, ◌∙◌, subst, arith, if◌then◌else◌}
use Rattle.std.specs.Prelude.{Option, Some, None, map, codes}
use Rattle.cp_base.specs.declared.place.Place.{Place}
use Rattle.cp_lists.specs.Lists.{IsIn, here}
use Rattle.cp_lists.proofs.Members.{in_append_left}
use Rattle.cp_lists.proofs.Appended.{none_and}
use Rattle.cp_model.specs.Senders.{ArePaired}
use Rattle.cp_model.specs.Term.{AtomTerm, Substitution, apply_to_atom}
use Rattle.cp_model.specs.Bindings.{as_substitution}
use Rattle.cp_model.specs.declared.variable.Variable.{Variable}
use Rattle.cp_model.specs.Strand.{Role, Applies, AppliesAt}
use Rattle.cp_model.specs.Problem.{variables_of_atoms, variables_of_assumptions}
use Rattle.cp_model.specs.Skeleton.{SkeletonStrand, UniqueAt, Assumptions, Skeleton}
use Rattle.cp_model.specs.Given.{listed_atoms, listed, given_non, given_penetrator_non, given_uniques}
use Rattle.cp_model.specs.Tree.{Label}
use Rattle.cp_model.proofs.Gathered.{atoms, uniques}
use Rattle.cp_model.proofs.OccurringVariables.{in_atoms}
use Rattle.cp_sexpr.specs.Syntax.{Form}
use Rattle.cp_language.specs.Printed.{numeral, headed_list, plain_list, no_place, atom_form}
use Rattle.cp_language.specs.Report.{occurring, vars_from, covering_pairs, unique_form, item_unless_empty, value_forms}
use Rattle.cp_language.specs.Problems.{Problem}
use Rattle.cp_language.proofs.ValidTests.{is_one}
use Rattle.cp_report.specs.Misfits.{misfit_unless, unless_misfit, lacking, each_misfits}
use Rattle.cp_report.specs.Heads.{item_with, optional_misfits, place_or}
use Rattle.cp_report.specs.Skeletons.{vars_misfits, scope_of, strand_misfits, strands_of_label, pairs_misfits, precedes_misfits, atoms_misfits, has_atoms, has_uniques, assumption_misfits, atoms_under, values_misfits, uniques_misfits, uniques_under, all_uniques_misfits, problem_variables, map_misfits, vars_item_misfits, strands_misfits, around_strands_misfits}
use Rattle.cp_report.specs.UpToNames.{renaming, unique_renamed, IsSameStrandUnder}
use Rattle.cp_report.proofs.CoveringSkeletons.{covers_fit}
use Rattle.cp_report.proofs.DistinctNames.{as_many_names}
use Rattle.cp_report.proofs.PrintedVariables.{variables_fit, one_to_one}
use Rattle.cp_report.proofs.ApartIdentifiers.{apart_named}
use Rattle.cp_report.proofs.PrintedStrands.{items_back}
use Rattle.cp_report.proofs.PrintedMaps.{strands_fit, named_identifiers, values_fit}
use Rattle.cp_report.proofs.PrintedAssumptions.{listed_apart, listed_only, atoms_fit, all_atoms}
use Rattle.cp_report.proofs.PrintedUniques.{uniques_fit, all_uniques}
use Rattle.cp_report.proofs.RenamedStrands.{non_among, penetrator_non_among, unique_among}
use Rattle.cp_report.proofs.LabelEntries.{found}
use Rattle.cp_report.proofs.SkeletonRead.{IsUnder, names_as_many, names_differ, all_strands_fit}
use Rattle.cp_report.proofs.LabelWords.{of_problem, names, named, number, items}
use Rattle.cp_report.proofs.LabelSkeleton.{PrintedLabel, stands, in_skeleton, in_values, in_non, in_penetrator_non, strand_items, strands_same, kinds, non_back, penetrator_non_back, uniques_in_place, unique_back, lists_all}

-- ---- items that may be left out

-- An item that lists something, or is left out.
pub optional_fits : (head : List ℕ) (inside : List Form → List Place) (fs : List Form) → inside fs ≡ [] → optional_misfits (λ at gs. lacking 1 at gs ++ inside gs) (item_with (head ∷ []) (item_unless_empty head fs)) ≡ []
optional_fits head inside [] e = refl
optional_fits head inside (f ∷ fs) e =
    ap (λ (b : Bool). optional_misfits (λ at gs. lacking 1 at gs ++ inside gs) (if b then Some (headed_list head (f ∷ fs)) else None)) (is_one head (head ∷ []) here)
    ∙ ap (λ (gs : List Form). lacking 1 no_place gs ++ inside gs) (items_back (f ∷ fs)) ∙ e

assumption_fits : (at : Place) (item : Option Form) (inside : List Form → List Place) (given : Bool) → optional_misfits (λ p fs. lacking 1 p fs ++ inside fs) item ≡ [] → given ≡ true → assumption_misfits at item inside given ≡ []
assumption_fits at item inside given e g =
    ap (λ (ps : List Place). unless_misfit ps (misfit_unless given (place_or at item))) e ∙ ap (λ (b : Bool). misfit_unless b (place_or at item)) g

-- As many strands.
pub paired_length : (f : Substitution) (ks ls : List SkeletonStrand) → ArePaired (IsSameStrandUnder f) ks ls → length ks ≡ length ls
paired_length f [] [] q = refl
paired_length f (a ∷ ks) (b ∷ ls) q = ap suc (paired_length f ks ls q.1)
paired_length f [] (b ∷ ls) q = absurd q
paired_length f (a ∷ ks) [] q = absurd q

-- An assumption of unique origination that applies has its variables in the prefix.
abbrev pub AppliesWhole : Type 0
AppliesWhole = (role : Role) (height : ℕ) (v : AtomTerm) (i : ℕ) → AppliesAt role height v i → Applies role height v

module _ (under : IsUnder) (whole : AppliesWhole) (p : Problem) (l : Label) (h : PrintedLabel p l) where
  abbrev k : Skeleton
  k = l.skeleton

  abbrev strands : List SkeletonStrand
  strands = strands_of_label p (items p l)

  -- ---- variables and strands

  pub vars_fit : vars_item_misfits (items p l) ≡ []
  vars_fit =
      let enough : length l.skeleton.variables ≤ length (names p l) = omega (arith, names_as_many p l h.variables (of_problem p) (as_many_names p.declared p.variables)) in
      ap (optional_misfits (λ at fs. lacking 1 at fs ++ vars_misfits [] fs)) (found (of_problem p) (names p l) l (codes "vars" ∷ []) refl)
      ∙ optional_fits (codes "vars") (vars_misfits []) (vars_from (names p l) (occurring l) 0 l.skeleton.variables)
      (variables_fit (occurring l) (names p l) (names_differ p l h.variables (of_problem p) (as_many_names p.declared p.variables) h.small h.names_differ) l.skeleton.variables enough)

  pub all_strands : strands_misfits p (items p l) ≡ []
  all_strands =
      ap (each_misfits (strand_misfits p.protocol.roles (scope_of (items p l)))) (strand_items under p l h)
      ∙ all_strands_fit under p.protocol.roles (scope_of (items p l)) (named p l) (number l) k.strands
      (λ n role height terms e. (h.roles role height (h.skeleton.of_role n role height terms e), h.skeleton.heights n role height terms e))
      (λ x m. stands under p l h x (in_skeleton under p l h x (in_append_left (variables_of_assumptions k.assumptions) m)))

  -- ---- order

  precedes_fit : optional_misfits (precedes_misfits strands) (item_with (codes "precedes" ∷ []) (items p l)) ≡ []
  precedes_fit =
      ap (optional_misfits (precedes_misfits strands)) (found (of_problem p) (names p l) l (codes "precedes" ∷ []) refl)
      ∙ optional_fits (codes "precedes") (pairs_misfits strands []) (covering_pairs k) (covers_fit k h.skeleton.order_pairs h.skeleton.no_cycle strands (kinds under p l h))

  -- ---- assumptions

  -- An item of atoms fits that lists those of the skeleton, where all that the strands give are among them.
  atoms_item_fits : (at : Place) (head : List ℕ) (given : List SkeletonStrand → List AtomTerm) (of : Assumptions → List AtomTerm) →
      item_with (head ∷ []) (items p l) ≡ item_with (head ∷ []) (item_unless_empty head (map (atom_form (named p l)) (listed_atoms (of k.from_problem.assumptions) (given k.strands) (of k.assumptions)))) →
      ((x : Variable) → IsIn x (variables_of_atoms (of k.assumptions)) → IsIn x (occurring l)) →
      atoms_under head (items p l) ≡ map (apply_to_atom (renaming (number l))) (listed_atoms (of k.from_problem.assumptions) (given k.strands) (of k.assumptions)) →
      ((w : AtomTerm) → IsIn w (given strands) → IsIn w (map (apply_to_atom (renaming (number l))) (listed_atoms (of k.from_problem.assumptions) (given k.strands) (of k.assumptions)))) → values_misfits at head (given strands) (items p l) ≡ []
  atoms_item_fits at head given of found occur back among =
      let own = of k.from_problem.assumptions in
      let old = of k.assumptions in
      let vs = listed_atoms own (given k.strands) old in
      assumption_fits at (item_with (head ∷ []) (items p l)) (atoms_misfits (scope_of (items p l)) []) (has_atoms (atoms_under head (items p l)) (given strands))
      (ap (optional_misfits (λ q gs. lacking 1 q gs ++ atoms_misfits (scope_of (items p l)) [] gs)) found
      ∙ optional_fits head (atoms_misfits (scope_of (items p l)) []) (map (atom_form (named p l)) vs)
      (atoms_fit (scope_of (items p l)) (named p l) (number l) (occurring l) (one_to_one (occurring l)) (stands under p l h) vs
      (λ v m x i. occur x (in_atoms old v x (listed_only atoms own (given k.strands) old v m) i)) (listed_apart atoms own (given k.strands) old)))
      (ap (λ (ws : List AtomTerm). has_atoms ws (given strands)) back ∙ all_atoms (map (apply_to_atom (renaming (number l))) vs) (given strands) among)

  non_fit : (at : Place) → values_misfits at (codes "non-orig") (given_non strands) (items p l) ≡ []
  non_fit at =
      atoms_item_fits at (codes "non-orig") given_non (λ a. a.non_originating) (found (of_problem p) (names p l) l (codes "non-orig" ∷ []) refl) (in_non under p l h) (non_back under p l h)
      (non_among (renaming (number l)) k.strands strands (strands_same under p l h) (listed k).non_originating
      (λ n role height terms e v m a. (lists_all under p l h).non (apply_to_atom (as_substitution terms) v) ((h.skeleton.given n role height terms e).non v m a)))

  penetrator_non_fit : (at : Place) → values_misfits at (codes "pen-non-orig") (given_penetrator_non strands) (items p l) ≡ []
  penetrator_non_fit at =
      atoms_item_fits at (codes "pen-non-orig") given_penetrator_non (λ a. a.penetrator_non_originating) (found (of_problem p) (names p l) l (codes "pen-non-orig" ∷ []) refl) (in_penetrator_non under p l h) (penetrator_non_back under p l h)
      (penetrator_non_among (renaming (number l)) k.strands strands (strands_same under p l h) (listed k).penetrator_non_originating
      (λ n role height terms e v m a. (lists_all under p l h).penetrator_non (apply_to_atom (as_substitution terms) v) ((h.skeleton.given n role height terms e).penetrator_non v m a)))

  unique_fit : (at : Place) → all_uniques_misfits at strands (items p l) ≡ []
  unique_fit at =
      assumption_fits at (item_with (codes "uniq-orig" ∷ []) (items p l)) (uniques_misfits (scope_of (items p l)) strands []) (has_uniques (uniques_under (items p l)) (given_uniques 0 strands))
      (ap (optional_misfits (λ q gs. lacking 1 q gs ++ uniques_misfits (scope_of (items p l)) strands [] gs)) (found (of_problem p) (names p l) l (codes "uniq-orig" ∷ []) refl)
      ∙ optional_fits (codes "uniq-orig") (uniques_misfits (scope_of (items p l)) strands []) (map (unique_form (named p l)) (listed k).uniquely_originating)
      (uniques_fit (scope_of (items p l)) strands (named p l) (number l) (occurring l) (one_to_one (occurring l)) (stands under p l h) (listed k).uniquely_originating (uniques_in_place under p l h)
      (listed_apart uniques k.from_problem.assumptions.uniquely_originating (given_uniques 0 k.strands) k.assumptions.uniquely_originating)))
      (ap (λ (us : List UniqueAt). has_uniques us (given_uniques 0 strands)) (unique_back under p l h)
      ∙ all_uniques (map (unique_renamed (renaming (number l))) (listed k).uniquely_originating) (given_uniques 0 strands)
      (unique_among (renaming (number l)) whole k.strands strands (strands_same under p l h) (listed k).uniquely_originating
      (λ n role height terms e v i m a. (lists_all under p l h).unique _ ((h.skeleton.given n role height terms e).unique v i m a))))

  -- ---- the map

  map_fits : optional_misfits (map_misfits p (scope_of (items p l)) strands) (item_with (codes "map" ∷ []) (items p l)) ≡ []
  map_fits =
      ap (optional_misfits (map_misfits p (scope_of (items p l)) strands)) (found (of_problem p) (names p l) l (codes "map" ∷ []) refl)
      ∙ ap (λ (fs : List Form). map_misfits p (scope_of (items p l)) strands no_place (plain_list (map numeral k.from_problem.strands) ∷ fs)) (items_back (value_forms (named p l) (of_problem p) k.from_problem.values))
      ∙ none_and _ _
      (strands_fit strands p.skeleton.strands k.from_problem.strands h.maps_all.strands (λ n m. as_many n (h.stated.in_range n m)))
      (values_fit (scope_of (items p l)) (named p l) (number l) no_place (of_problem p) p.variables k.from_problem.values (as_many_names p.declared p.variables)
      (apart_named (problem_variables p) (of_problem p) (named_identifiers (of_problem p) p.variables (as_many_names p.declared p.variables)) h.names_differ) h.maps_all.values
      (λ x m. stands under p l h x (in_values under p l h x m)))
    where
      as_many : (n : ℕ) → n < length k.strands → n < length strands
      as_many n less = subst (λ (m : ℕ). n < m) (paired_length (renaming (number l)) k.strands strands (strands_same under p l h)) less

  -- What states the skeleton around the strands fits.
  pub around_fits : (at : Place) → around_strands_misfits p at (items p l) ≡ []
  around_fits at = none_and _ _ (none_and _ _ (none_and _ _ (none_and _ _ precedes_fit (non_fit at)) (penetrator_non_fit at)) (unique_fit at)) map_fits
