-- The skeleton that a label form states as it is printed is the label's.
use Rattle.std.proofs.Common.{◌≡◌, ℕ, ◌<◌, ◌^◌, List, ◌∷◌, ◌++◌, length, refl, sym, ap, ◌∙◌, subst}
use Rattle.std.specs.Prelude.{map, codes}
use Rattle.cp_lists.specs.Lists.{IsIn}
use Rattle.cp_lists.proofs.Members.{in_append_left, in_append_right}
use Rattle.cp_model.specs.Senders.{ArePaired}
use Rattle.cp_model.specs.Term.{AtomTerm, variables_of_atom, Substitution, apply_to, apply_to_atom}
use Rattle.cp_model.specs.declared.variable.Variable.{Variable}
use Rattle.cp_model.specs.Strand.{Role}
use Rattle.cp_model.specs.Problem.{variables_of_strands, variables_of_atoms, variables_of_uniques, variables_of_assumptions, variables_of_skeleton}
use Rattle.cp_model.specs.Skeleton.{term_event_at, UniqueAt, Assumptions, FromProblem, Skeleton, IsSkeleton}
use Rattle.cp_model.specs.Given.{listed, listed_atoms, given_non, given_penetrator_non, given_uniques}
use Rattle.cp_model.specs.Stated.{AreImages, KeepsStated}
use Rattle.cp_model.specs.Tree.{Label}
use Rattle.cp_model.specs.declared.node.Node.{Node}
use Rattle.cp_model.specs.declared.node.OrderPair.{OrderPair}
use Rattle.cp_model.proofs.Gathered.{atoms, uniques}
use Rattle.cp_model.proofs.Images.{mapped_images}
use Rattle.cp_model.proofs.LawOrder.{before_leads}
use Rattle.cp_model.proofs.OccurringVariables.{in_atoms, in_uniques}
use Rattle.cp_sexpr.specs.Syntax.{Form}
use Rattle.cp_language.specs.Names.{problem_names}
use Rattle.cp_language.specs.Printed.{numeral, plain_list, atom_form}
use Rattle.cp_language.specs.Report.{variables_of_terms, variables_of_test, variables_of_patterns, occurring, vars_from, strand_form, covering_pairs, unique_form, value_forms, HasItsVariables}
use Rattle.cp_language.specs.Problems.{is_known, pairs_in, Problem}
use Rattle.cp_report.specs.Heads.{entries_under, entries_or_none, items_with, strand_heads}
use Rattle.cp_report.specs.Spelled.{atom_in}
use Rattle.cp_report.specs.Skeletons.{declaration_of, declarations_of_label, scope_of, strand_of, strands_of_label, unique_of, atoms_under, uniques_under, problem_variables, strands_mapped, values_of_map, from_problem_by, pairs_under, assumptions_stated, from_problem_of, skeleton_stated}
use Rattle.cp_report.specs.FittingTrees.{MapsAll}
use Rattle.cp_report.specs.UpToNames.{renamed, renaming, unique_renamed, AreSameAssumptions, IsSameStrandUnder, IsSameSkeleton}
use Rattle.cp_report.proofs.SpelledTerms.{StandsFor}
use Rattle.cp_report.proofs.CoveringSkeletons.{IsSameKind, covers_of, covers_back, same_order, last_node, there_too}
use Rattle.cp_report.proofs.DistinctNames.{AreDifferent, as_many_names}
use Rattle.cp_report.proofs.PrintedVariables.{occurring_from, variables_back, one_to_one}
use Rattle.cp_report.proofs.ApartIdentifiers.{apart_named}
use Rattle.cp_report.proofs.PrintedStrands.{IsFound, items_back}
use Rattle.cp_report.proofs.PrintedMaps.{numbers_back, named_identifiers, values_return}
use Rattle.cp_report.proofs.PrintedAssumptions.{listed_all, listed_only, atoms_back}
use Rattle.cp_report.proofs.PrintedUniques.{IsOriginIn, origin_renamed, uniques_back}
use Rattle.cp_report.proofs.RenamedStrands.{same_kinds}
use Rattle.cp_report.proofs.OwnStated.{AreOver, ListsAll, assumptions_renamed, own_assumptions_back, AreInOrder, own_pairs_back}
use Rattle.cp_report.proofs.LabelItems.{label_groups, label_in_groups, label_groups_are, items_found, all_with, strand_headed}
use Rattle.cp_report.proofs.LabelEntries.{map_found, are_listed}
use Rattle.cp_report.proofs.LabelWords.{of_problem, names, named, number, items}
use Rattle.cp_report.proofs.SkeletonRead.{IsUnder, each_stands, all_strands_back}

-- What is used of a label that is printed for a problem.
pub record PrintedLabel (p : Problem) (l : Label) : Type 0 where
  pub names_differ : AreDifferent (problem_names p.declared p.variables)
  pub small : length l.skeleton.variables < 2 ^ 64
  pub variables : HasItsVariables p l
  pub skeleton : IsSkeleton p.protocol l.skeleton
  pub maps_all : MapsAll p l.skeleton
  pub stated : KeepsStated p.skeleton l.skeleton
  pub roles : (role : Role) (height : ℕ) → IsIn role p.protocol.roles → IsFound p.protocol.roles role height
  pub own : AreOver p.variables p.skeleton.from_problem.assumptions

-- The same members make the same images.
same_images : {A B : Type 0} (f : A → B) (old ls : List A) → ((x : A) → IsIn x old → IsIn x ls) → ((x : A) → IsIn x ls → IsIn x old) → AreImages f old (map f ls)
same_images f old ls all only y = (
  λ i. let r = (mapped_images f ls y).0 i in record { item = r.item; listed = only r.item r.listed; image = r.image },
  λ r. (mapped_images f ls y).1 (record { item = r.item; listed = all r.item r.listed; image = r.image }),
)

module _ (under : IsUnder) (p : Problem) (l : Label) (h : PrintedLabel p l) where
  abbrev f : Substitution
  f = renaming (number l)

  abbrev k : Skeleton
  k = l.skeleton

  -- ---- the entries of items

  vars_are : entries_under (codes "vars") (items p l) ≡ vars_from (names p l) (occurring l) 0 l.skeleton.variables
  vars_are = are_listed (of_problem p) (names p l) l (codes "vars") (vars_from (names p l) (occurring l) 0 l.skeleton.variables) refl refl

  precedes_are : entries_under (codes "precedes") (items p l) ≡ covering_pairs k
  precedes_are = are_listed (of_problem p) (names p l) l (codes "precedes") (covering_pairs k) refl refl

  non_are : entries_under (codes "non-orig") (items p l) ≡ map (atom_form (named p l)) (listed k).non_originating
  non_are = are_listed (of_problem p) (names p l) l (codes "non-orig") (map (atom_form (named p l)) (listed k).non_originating) refl refl

  penetrator_non_are : entries_under (codes "pen-non-orig") (items p l) ≡ map (atom_form (named p l)) (listed k).penetrator_non_originating
  penetrator_non_are = are_listed (of_problem p) (names p l) l (codes "pen-non-orig") (map (atom_form (named p l)) (listed k).penetrator_non_originating) refl refl

  unique_are : entries_under (codes "uniq-orig") (items p l) ≡ map (unique_form (named p l)) (listed k).uniquely_originating
  unique_are = are_listed (of_problem p) (names p l) l (codes "uniq-orig") (map (unique_form (named p l)) (listed k).uniquely_originating) refl refl

  map_is : entries_under (codes "map") (items p l) ≡ plain_list (map numeral k.from_problem.strands) ∷ value_forms (named p l) (of_problem p) k.from_problem.values
  map_is = ap entries_or_none (map_found (of_problem p) (names p l) l) ∙ ap (λ (fs : List Form). plain_list (map numeral k.from_problem.strands) ∷ fs) (items_back (value_forms (named p l) (of_problem p) k.from_problem.values))

  pub strand_items : items_with strand_heads (items p l) ≡ map (strand_form (named p l)) k.strands
  strand_items =
      ap (items_with strand_heads) (label_in_groups (of_problem p) (names p l) l)
      ∙ items_found strand_heads (label_groups (of_problem p) (names p l) l) (label_groups_are (of_problem p) (names p l) l) refl
      ∙ all_with strand_heads (map (strand_form (named p l)) k.strands) (strand_headed (named p l) k.strands)

  -- ---- variables

  pub variables_are : declarations_of_label (items p l) ≡ occurring_from (occurring l) (names p l) 0 l.skeleton.variables
  variables_are = ap (map declaration_of) vars_are ∙ variables_back (occurring l) (names p l) 0 l.skeleton.variables

  pub stands : (x : Variable) → IsIn x (occurring l) → StandsFor (scope_of (items p l)) (named p l x) (renamed (number l) x)
  stands x m = each_stands p l h.variables (of_problem p) (as_many_names p.declared p.variables) h.small h.names_differ (scope_of (items p l)) variables_are x m

  pub in_skeleton : (x : Variable) → IsIn x (variables_of_skeleton k) → IsIn x (occurring l)
  in_skeleton x m = in_append_left (variables_of_patterns l.escape) (in_append_left (variables_of_test l.test) (in_append_left (variables_of_terms k.from_problem.values) m))

  pub in_values : (x : Variable) → IsIn x (variables_of_terms k.from_problem.values) → IsIn x (occurring l)
  in_values x m = in_append_left (variables_of_patterns l.escape) (in_append_left (variables_of_test l.test) (in_append_right (variables_of_skeleton k) m))

  pub in_assumptions : (x : Variable) → IsIn x (variables_of_assumptions k.assumptions) → IsIn x (occurring l)
  in_assumptions x m = in_skeleton x (in_append_right (variables_of_strands k.strands) m)

  -- ---- strands and order

  pub strands_same : ArePaired (IsSameStrandUnder f) k.strands (strands_of_label p (items p l))
  strands_same =
      subst (λ (fs : List Form). ArePaired (IsSameStrandUnder f) k.strands (map (strand_of p.protocol.roles (scope_of (items p l))) fs)) (sym strand_items)
      (all_strands_back under p.protocol.roles (scope_of (items p l)) (named p l) (number l) k.strands
      (λ n role height terms e. (h.roles role height (h.skeleton.of_role n role height terms e), h.skeleton.heights n role height terms e))
      (λ x m. stands x (in_skeleton x (in_append_left (variables_of_assumptions k.assumptions) m))))

  pub kinds : (n : Node) → IsSameKind (term_event_at k.strands n) (term_event_at (strands_of_label p (items p l)) n)
  kinds = same_kinds f k.strands (strands_of_label p (items p l)) strands_same

  pairs_are : pairs_under (items p l) ≡ covers_of k
  pairs_are = ap pairs_in precedes_are ∙ covers_back k h.skeleton.order_pairs h.skeleton.no_cycle

  -- ---- assumptions

  pub in_non : (x : Variable) → IsIn x (variables_of_atoms k.assumptions.non_originating) → IsIn x (occurring l)
  in_non x i = in_assumptions x (in_append_left (variables_of_uniques k.assumptions.uniquely_originating) (in_append_left (variables_of_atoms k.assumptions.penetrator_non_originating) i))

  pub in_penetrator_non : (x : Variable) → IsIn x (variables_of_atoms k.assumptions.penetrator_non_originating) → IsIn x (occurring l)
  in_penetrator_non x i = in_assumptions x (in_append_left (variables_of_uniques k.assumptions.uniquely_originating) (in_append_right (variables_of_atoms k.assumptions.non_originating) i))

  -- The values that are listed of old ones are read back under the renaming.
  listed_back : (head : List ℕ) (own given old : List AtomTerm) → entries_under head (items p l) ≡ map (atom_form (named p l)) (listed_atoms own given old) → ((x : Variable) → IsIn x (variables_of_atoms old) → IsIn x (occurring l))
      → atoms_under head (items p l) ≡ map (apply_to_atom f) (listed_atoms own given old)
  listed_back head own given old are occur =
      ap (map (atom_in (scope_of (items p l)))) are
      ∙ atoms_back (scope_of (items p l)) (named p l) (number l) (occurring l) (one_to_one (occurring l)) stands (listed_atoms own given old) (λ v m x i. occur x (in_atoms old v x (listed_only atoms own given old v m) i))

  pub non_back : atoms_under (codes "non-orig") (items p l) ≡ map (apply_to_atom f) (listed k).non_originating
  non_back = listed_back (codes "non-orig") k.from_problem.assumptions.non_originating (given_non k.strands) k.assumptions.non_originating non_are in_non

  pub penetrator_non_back : atoms_under (codes "pen-non-orig") (items p l) ≡ map (apply_to_atom f) (listed k).penetrator_non_originating
  penetrator_non_back = listed_back (codes "pen-non-orig") k.from_problem.assumptions.penetrator_non_originating (given_penetrator_non k.strands) k.assumptions.penetrator_non_originating penetrator_non_are in_penetrator_non

  pub unique_in : (u : UniqueAt) → IsIn u (listed k).uniquely_originating → IsIn u k.assumptions.uniquely_originating
  unique_in u m = listed_only uniques k.from_problem.assumptions.uniquely_originating (given_uniques 0 k.strands) k.assumptions.uniquely_originating u m

  pub uniques_in_place : (u : UniqueAt) → IsIn u (listed k).uniquely_originating →
      ((x : Variable) → IsIn x (variables_of_atom u.value) → IsIn x (occurring l)) × IsOriginIn (strands_of_label p (items p l)) (apply_to_atom f u.value) u.origin
  uniques_in_place u m = (
    (λ x i. in_assumptions x (in_append_right (variables_of_atoms k.assumptions.non_originating ++ variables_of_atoms k.assumptions.penetrator_non_originating) (in_uniques k.assumptions.uniquely_originating u x (unique_in u m) i))),
    origin_renamed (number l) k (strands_of_label p (items p l)) strands_same u (h.skeleton.origins u (unique_in u m)),
  )

  pub unique_back : uniques_under (items p l) ≡ map (unique_renamed f) (listed k).uniquely_originating
  unique_back =
      ap (map (unique_of (scope_of (items p l)))) unique_are
      ∙ uniques_back (scope_of (items p l)) (strands_of_label p (items p l)) (named p l) (number l) (occurring l) (one_to_one (occurring l)) stands (listed k).uniquely_originating uniques_in_place

  assumptions_are : assumptions_stated (items p l) ≡ assumptions_renamed f (listed k)
  assumptions_are = λ i. record { non_originating = non_back i; penetrator_non_originating = penetrator_non_back i; uniquely_originating = unique_back i }

  pub lists_all : ListsAll k (listed k)
  lists_all = record {
    non = listed_all atoms k.from_problem.assumptions.non_originating (given_non k.strands) k.assumptions.non_originating;
    penetrator_non = listed_all atoms k.from_problem.assumptions.penetrator_non_originating (given_penetrator_non k.strands) k.assumptions.penetrator_non_originating;
    unique = listed_all uniques k.from_problem.assumptions.uniquely_originating (given_uniques 0 k.strands) k.assumptions.uniquely_originating;
  }

  assumptions_same : AreSameAssumptions f k.assumptions (assumptions_renamed f (listed k))
  assumptions_same = record {
    non = same_images (apply_to_atom f) k.assumptions.non_originating (listed k).non_originating lists_all.non
        (listed_only atoms k.from_problem.assumptions.non_originating (given_non k.strands) k.assumptions.non_originating);
    penetrator_non = same_images (apply_to_atom f) k.assumptions.penetrator_non_originating (listed k).penetrator_non_originating lists_all.penetrator_non
        (listed_only atoms k.from_problem.assumptions.penetrator_non_originating (given_penetrator_non k.strands) k.assumptions.penetrator_non_originating);
    unique = same_images (unique_renamed f) k.assumptions.uniquely_originating (listed k).uniquely_originating lists_all.unique unique_in;
  }

  -- ---- the way from the problem

  strands_are_mapped : strands_mapped (entries_under (codes "map") (items p l)) ≡ k.from_problem.strands
  strands_are_mapped = ap strands_mapped map_is ∙ numbers_back k.from_problem.strands

  values_are_mapped : values_of_map p (scope_of (items p l)) (entries_under (codes "map") (items p l)) ≡ map (apply_to f) k.from_problem.values
  values_are_mapped =
      ap (values_of_map p (scope_of (items p l))) map_is
      ∙ values_return (scope_of (items p l)) (named p l) (number l) (of_problem p) p.variables k.from_problem.values (as_many_names p.declared p.variables)
      (apart_named (problem_variables p) (of_problem p) (named_identifiers (of_problem p) p.variables (as_many_names p.declared p.variables)) h.names_differ) h.maps_all.values (λ x m. stands x (in_values x m))

  abbrev way : FromProblem
  way = from_problem_by p (strands_of_label p (items p l)) (covers_of k) (assumptions_renamed f (listed k)) k.from_problem.strands (map (apply_to f) k.from_problem.values)

  way_is : from_problem_of p (items p l) ≡ way
  way_is = λ i. from_problem_by p (strands_of_label p (items p l)) (pairs_are i) (assumptions_are i) (strands_are_mapped i) (values_are_mapped i)

  -- the skeleton with these strands and pairs
  abbrev ordered_so : Skeleton
  ordered_so = record { variables = declarations_of_label (items p l); strands = strands_of_label p (items p l); pairs = covers_of k; assumptions = k.assumptions; from_problem = k.from_problem }

  own_in_order : AreInOrder (strands_of_label p (items p l)) (covers_of k) k.from_problem.pairs
  own_in_order q m =
      let b = h.stated.ordered q m in
      let c = (same_order k h.skeleton.order_pairs h.skeleton.no_cycle (strands_of_label p (items p l)) kinds ordered_so refl refl q.earlier q.later).0 b in
      let n = last_node k h.skeleton.order_pairs h.skeleton.no_cycle (strands_of_label p (items p l)) kinds ordered_so refl refl q.earlier q.later b in
      let t = there_too (term_event_at k.strands q.later) (term_event_at (strands_of_label p (items p l)) q.later) (kinds q.later) n in
      (before_leads ordered_so q.earlier q.later c, ap is_known t.1)

  -- The skeleton that the items state is the label's under the renaming.
  pub skeleton_back : IsSameSkeleton f k (skeleton_stated p (items p l))
  skeleton_back = record {
    strands = strands_same;
    order = same_order k h.skeleton.order_pairs h.skeleton.no_cycle (strands_of_label p (items p l)) kinds (skeleton_stated p (items p l)) refl pairs_are;
    assumptions = subst (λ (a : Assumptions). AreSameAssumptions f k.assumptions a) (sym assumptions_are) assumptions_same;
    mapped_strands = sym strands_are_mapped;
    mapped_values = sym values_are_mapped;
    own_assumptions = subst (λ (w : FromProblem). AreSameAssumptions f k.from_problem.assumptions w.assumptions) (sym way_is)
        (own_assumptions_back f p.skeleton k p.variables h.stated h.maps_all.values h.own (listed k) lists_all);
    own_pairs = subst (λ (w : FromProblem). AreImages (λ (q : OrderPair). q) k.from_problem.pairs w.pairs) (sym way_is)
        (own_pairs_back p.skeleton k h.stated (strands_of_label p (items p l)) (covers_of k) (map (apply_to f) k.from_problem.values) own_in_order);
  }
