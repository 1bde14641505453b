-- The label that a label form without misfits denotes: what is asked of its items holds of the label.
use Rattle.std.proofs.Common.{◌≡◌, ℕ, zero, suc, ◌+◌, List, [], ◌∷◌, ◌++◌, Bool, true, ◌||◌, ◌==◌, refl, subst, arith}
use Rattle.std.specs.Prelude.{Some, map, codes, not, drop}
use Rattle.cp_base.specs.declared.place.Place.{Place}
use Rattle.cp_lists.specs.Lists.{item_at, IsIn}
use Rattle.cp_lists.proofs.Appended.{none_before, none_behind, none_of_three, none_of_four}
use Rattle.cp_model.specs.Given.{given_non, given_penetrator_non, given_uniques}
use Rattle.cp_model.specs.Strand.{Role}
use Rattle.cp_model.specs.declared.variable.Declaration.{Declaration}
use Rattle.cp_model.specs.Problem.{variables_of_strands, variables_of_atoms, variables_of_uniques, variables_of_assumptions, variables_of_skeleton, variables_of_terms}
use Rattle.cp_model.specs.Skeleton.{SkeletonStrand, IsSkeleton}
use Rattle.cp_model.specs.Tree.{Label}
use Rattle.cp_sexpr.specs.Syntax.{Form}
use Rattle.cp_language.specs.Faults.{place_of}
use Rattle.cp_language.specs.Names.{problem_names}
use Rattle.cp_language.specs.Problems.{Problem, is_known}
use Rattle.cp_language.specs.Report.{variables_of_test, variables_of_patterns, occurring}
use Rattle.cp_language.specs.Role.{IsWellFormedRole}
use Rattle.cp_language.proofs.Terms.{AreDeclared, both_declared}
use Rattle.cp_report.specs.Misfits.{misfit_unless, first_or, number_misfits}
use Rattle.cp_report.specs.Heads.{item_with, items_with, forms_after_head, entries_under, optional_misfits, mark_heads, strand_heads, lines_of_label, order_misfits}
use Rattle.cp_report.specs.Skeletons.{declarations_of_label, scope_of, strands_of_label, precedes_misfits, has_atoms, atoms_misfits, atoms_under, values_misfits, has_uniques, uniques_misfits, uniques_under, all_uniques_misfits, map_misfits, skeleton_stated}
use Rattle.cp_report.specs.Labels.{operation_place_misfits, word_of_label, unrealised_misfits, test_misfits, has_children, has_mark, wants_parent, behind_number, items_misfits, numbered_misfits, label_misfits, label_by, label_of}
use Rattle.cp_report.specs.ReadBack.{labels_misfits}
use Rattle.cp_report.proofs.DistinctNames.{AreDifferent}
use Rattle.cp_stated.proofs.FittingMap.{strands_there}
use Rattle.cp_stated.proofs.FittingValues.{inside_fits}
use Rattle.cp_report.proofs.NoMisfits.{holds, none_in_five}
use Rattle.cp_stated.proofs.SoundStated.{stated_skeleton}
use Rattle.cp_readback.specs.AcceptedLabels.{IsAcceptedIn}
use Rattle.cp_readback.proofs.FittingImages.{keeps_listed}
use Rattle.cp_report.proofs.PartsFit.{ItemsFit, items_fit}
use Rattle.cp_readback.proofs.FittingItems.{head_found}
use Rattle.cp_readback.proofs.FittingMaps.{map_is}
use Rattle.cp_readback.proofs.FittingNumbers.{children_agree, mark_or_children}
use Rattle.cp_readback.proofs.FittingOperations.{operation_fits, word_names, parent_fits}
use Rattle.cp_readback.proofs.FittingTests.{unrealised_there, test_there, patterns_are, none_untested}
use Rattle.cp_readback.proofs.FittingVariables.{strands_declared, atoms_declared, uniques_declared, map_declared, test_declared, patterns_declared}

-- ---- one label form

module _ (p : Problem) (well : (role : Role) → IsIn role p.protocol.roles → IsWellFormedRole role) (differ : AreDifferent (problem_names p.declared p.variables)) (forms : List Form) where
  abbrev labels : List Label
  labels = map (label_of p) forms

  module _ (i : ℕ) (at : Place) (items : List Form) (fit : ItemsFit p (Some forms) i at items) where
    abbrev ds : List Declaration
    ds = declarations_of_label items

    abbrev strands : List SkeletonStrand
    strands = strands_of_label p items

    abbrev q : Place
    q = first_or at (order_misfits lines_of_label items)

    -- What the label form may not lack.
    record LacksNone : Type 0 where
      operation : is_known (item_with (codes "by" ∷ []) items) ≡ true
      way : is_known (item_with (codes "map" ∷ []) items) ≡ true
      one : (has_children items || has_mark items) ≡ true
      parent : (not (wants_parent items) || is_known (item_with (codes "parent" ∷ []) items)) ≡ true

    -- It lacks none of them.
    lacks_none : LacksNone
    lacks_none =
        let four = none_of_four (misfit_unless (is_known (item_with (codes "by" ∷ []) items)) at) (misfit_unless (is_known (item_with (codes "map" ∷ []) items)) at) (misfit_unless (has_children items || has_mark items) at)
        (misfit_unless (not (wants_parent items) || is_known (item_with (codes "parent" ∷ []) items)) at) fit.missing in
        record {
          operation = holds (is_known (item_with (codes "by" ∷ []) items)) at four.0;
          way = holds (is_known (item_with (codes "map" ∷ []) items)) at four.1;
          one = holds (has_children items || has_mark items) at four.2;
          parent = holds (not (wants_parent items) || is_known (item_with (codes "parent" ∷ []) items)) at four.3;
        }

    -- The items around the strands fit.
    record AroundFits : Type 0 where
      non : atoms_misfits (scope_of items) [] (entries_under (codes "non-orig") items) ≡ []
      penetrator_non : atoms_misfits (scope_of items) [] (entries_under (codes "pen-non-orig") items) ≡ []
      unique : uniques_misfits (scope_of items) strands [] (entries_under (codes "uniq-orig") items) ≡ []
      way : optional_misfits (map_misfits p (scope_of items) strands) (item_with (codes "map" ∷ []) items) ≡ []

    -- They do, item by item.
    around_fits : AroundFits
    around_fits =
        let five = none_in_five (optional_misfits (precedes_misfits strands) (item_with (codes "precedes" ∷ []) items)) (values_misfits q (codes "non-orig") (given_non strands) items)
        (values_misfits q (codes "pen-non-orig") (given_penetrator_non strands) items) (all_uniques_misfits q strands items)
        (optional_misfits (map_misfits p (scope_of items) strands) (item_with (codes "map" ∷ []) items)) fit.around in
        record {
          non = inside_fits q (item_with (codes "non-orig" ∷ []) items) (atoms_misfits (scope_of items) []) (has_atoms (atoms_under (codes "non-orig") items) (given_non strands)) refl five.1;
          penetrator_non = inside_fits q (item_with (codes "pen-non-orig" ∷ []) items) (atoms_misfits (scope_of items) []) (has_atoms (atoms_under (codes "pen-non-orig") items) (given_penetrator_non strands)) refl five.2;
          unique = inside_fits q (item_with (codes "uniq-orig" ∷ []) items) (uniques_misfits (scope_of items) strands []) (has_uniques (uniques_under items) (given_uniques 0 strands)) refl five.3;
          way = five.4;
        }

    -- What speaks of the strands fits.
    record AboutFits : Type 0 where
      operation : operation_place_misfits strands (word_of_label items) (drop 1 (entries_under (codes "by") items)) ≡ []
      unrealised : optional_misfits (unrealised_misfits strands) (item_with (codes "unrealised" ∷ []) items) ≡ []
      test : optional_misfits (test_misfits (scope_of items) strands) (item_with (codes "test" ∷ []) items) ≡ []

    -- It does, item by item.
    about_fits : AboutFits
    about_fits =
        let three = none_of_three (operation_place_misfits strands (word_of_label items) (drop 1 (entries_under (codes "by") items)))
        (optional_misfits (unrealised_misfits strands) (item_with (codes "unrealised" ∷ []) items)) (optional_misfits (test_misfits (scope_of items) strands) (item_with (codes "test" ∷ []) items)) fit.about in
        record { operation = three.0; unrealised = three.1; test = three.2 }

    abbrev l : Label
    l = label_by p items

    -- The items state a skeleton over the protocol.
    is_skeleton : IsSkeleton p.protocol (skeleton_stated p items)
    is_skeleton = stated_skeleton p q items fit.strands fit.around

    abbrev tested : Bool
    tested = is_known (item_with (codes "test" ∷ []) items)

    -- The variables that occur are declared.
    all_declared : AreDeclared ds (occurring l)
    all_declared =
        let map_fits = map_is ds p differ strands (item_with (codes "map" ∷ []) items) lacks_none.way around_fits.way in
        let k = skeleton_stated p items in
        let non = variables_of_atoms k.assumptions.non_originating in
        let penetrator_non = variables_of_atoms k.assumptions.penetrator_non_originating in
        let unique = variables_of_uniques k.assumptions.uniquely_originating in
        let values = variables_of_terms k.from_problem.values in
        let test = variables_of_test l.test in
        let escape = variables_of_patterns l.escape in
        both_declared ds (variables_of_skeleton k ++ values ++ test) escape
        (both_declared ds (variables_of_skeleton k ++ values) test
        (both_declared ds (variables_of_skeleton k) values
        (both_declared ds (variables_of_strands k.strands) (variables_of_assumptions k.assumptions) (strands_declared ds p.protocol.roles well (items_with strand_heads items) fit.strands)
        (both_declared ds (non ++ penetrator_non) unique
        (both_declared ds non penetrator_non (atoms_declared ds [] (entries_under (codes "non-orig") items) around_fits.non) (atoms_declared ds [] (entries_under (codes "pen-non-orig") items) around_fits.penetrator_non))
        (uniques_declared ds strands [] (entries_under (codes "uniq-orig") items) around_fits.unique)))
        (map_declared ds p (entries_under (codes "map") items) map_fits.each))
        (test_declared ds strands (item_with (codes "test" ∷ []) items) about_fits.test))
        (patterns_declared ds tested (item_with (codes "escape" ∷ []) items) fit.escape)

    -- The label that the items state is accepted.
    label_accepted : IsAcceptedIn p labels i l
    label_accepted =
        let by_item = item_with (codes "by" ∷ []) items in
        let map_fits = map_is ds p differ strands (item_with (codes "map" ∷ []) items) lacks_none.way around_fits.way in
        record {
          declared = all_declared;
          stated = keeps_listed p items is_skeleton (strands_there strands p (scope_of items) (item_with (codes "map" ∷ []) items) around_fits.way);
          consistent = record {
            skeleton = is_skeleton;
            maps_all = record { strands = map_fits.as_many; values = map_fits.paired };
            operation = operation_fits p (skeleton_stated p items) by_item lacks_none.operation fit.operation about_fits.operation;
            parent = parent_fits p forms i (word_of_label items) (drop 1 (entries_under (codes "by") items)) (item_with (codes "parent" ∷ []) items) (word_names p by_item lacks_none.operation fit.operation) fit.no_parent fit.parent lacks_none.parent;
            unrealised = unrealised_there strands (item_with (codes "unrealised" ∷ []) items) about_fits.unrealised;
            test = test_there (scope_of items) (skeleton_stated p items) (item_with (codes "test" ∷ []) items) about_fits.test;
            patterns = patterns_are ds tested (item_with (codes "escape" ∷ []) items) fit.escape;
            escape = none_untested ds (scope_of items) (item_with (codes "test" ∷ []) items) (item_with (codes "escape" ∷ []) items) fit.escape;
            children = children_agree p forms i (item_with (codes "children" ∷ []) items) fit.children;
            mark = mark_or_children p forms i (item_with mark_heads items) (item_with (codes "children" ∷ []) items) (head_found mark_heads items) lacks_none.one fit.mark fit.children;
          };
        }

  -- ---- all labels

  -- A label form without misfits denotes an accepted label;
  form_accepted : (i : ℕ) (at : Place) (fs : List Form) → numbered_misfits p (Some forms) i at fs ≡ [] → IsAcceptedIn p labels i (label_by p (behind_number fs))
  form_accepted i at [] e = absurd (cc)
  form_accepted i at (f ∷ fs) e =
      let items = behind_number (f ∷ fs) in
      label_accepted i at items (items_fit p (Some forms) i at items (none_behind (number_misfits (λ n. n == i) f) (items_misfits p (Some forms) i at items) e))

  -- so does each of label forms without misfits.
  pub forms_accepted : (n : ℕ) (fs : List Form) → labels_misfits p (Some forms) n fs ≡ [] → (i : ℕ) (l : Label) → item_at (map (label_of p) fs) i ≡ Some l → IsAcceptedIn p labels (n + i) l
  forms_accepted n [] e i l g = absurd (cc)
  forms_accepted n (f ∷ fs) e zero l g =
      let same : label_of p f ≡ l = cc in
      let z : n ≡ n + 0 = omega arith in
      subst (λ (m : ℕ). IsAcceptedIn p labels m l) z (subst (IsAcceptedIn p labels n) same (form_accepted n (place_of f) (forms_after_head f) (none_before (label_misfits p (Some forms) n f) (labels_misfits p (Some forms) (suc n) fs) e)))
  forms_accepted n (f ∷ fs) e (suc i) l g =
      let z : suc n + i ≡ n + suc i = omega arith in
      subst (λ (m : ℕ). IsAcceptedIn p labels m l) z (forms_accepted (suc n) fs (none_behind (label_misfits p (Some forms) n f) (labels_misfits p (Some forms) (suc n) fs) e) i l g)
