-- What items state that fit is a skeleton, and sound.
use Rattle.std.proofs.Common.{◌≡◌, ℕ, ◌+◌, List, [], ◌∷◌, map, Some, refl, sym, subst, arith}
use Rattle.std.specs.Prelude.{codes}
use Rattle.cp_base.specs.declared.place.Place.{Place}
use Rattle.cp_lists.specs.Lists.{item_at, IsIn}
use Rattle.cp_lists.proofs.Members.{from_filter}
use Rattle.cp_model.specs.Term.{AtomTerm, apply_to_atom}
use Rattle.cp_model.specs.Bindings.{Binding, as_substitution}
use Rattle.cp_model.specs.Strand.{Role}
use Rattle.cp_model.specs.Bundle.{node_at}
use Rattle.cp_model.specs.Skeleton.{SkeletonStrand, instance, UniqueAt, Skeleton, GivesAssumptions, IsSkeleton}
use Rattle.cp_model.specs.declared.node.OrderPair.{OrderPair}
use Rattle.cp_model.specs.Stated.{HasOwnAssumptions, pair_image}
use Rattle.cp_model.specs.Given.{has_atom, has_unique, given_non, given_penetrator_non, given_uniques}
use Rattle.cp_model.proofs.Gathered.{atoms, uniques}
use Rattle.cp_sexpr.specs.Syntax.{Form}
use Rattle.cp_language.specs.Problems.{Problem}
use Rattle.cp_skel.specs.Sound.{IsSound}
use Rattle.cp_model.specs.Declares.{DeclaresItsVariables}
use Rattle.cp_report.specs.Heads.{item_with, entries_under, optional_misfits}
use Rattle.cp_report.specs.Skeletons.{scope_of, strands_of_label, precedes_misfits, pairs_under, has_atoms, atoms_misfits, atoms_under, values_misfits, has_uniques, uniques_misfits, uniques_under, all_uniques_misfits, map_misfits, strands_mapped, values_of_map, map_by, is_in_order, strands_misfits, around_strands_misfits, skeleton_stated}
use Rattle.cp_language.proofs.Atoms.{given_there, non_given, penetrator_non_given}
use Rattle.cp_language.proofs.Uniques as wellformed
use Rattle.cp_language.proofs.NoCycle.{no_cycle, are_pairs}
use Rattle.cp_language.proofs.Bodies.{AreBuilt}
use Rattle.cp_report.proofs.NoMisfits.{none_in_five}
use Rattle.cp_stated.proofs.FittingStrands.{strands_are_of}
use Rattle.cp_stated.proofs.FittingOrder.{order_built, in_order}
use Rattle.cp_stated.proofs.FittingValues as values
use Rattle.cp_stated.proofs.FittingMap.{strands_there}

-- The five kinds of items behind the strands fit.
record FitAround (p : Problem) (at : Place) (items : List Form) : Type 0 where
  order : optional_misfits (precedes_misfits (strands_of_label p items)) (item_with (codes "precedes" ∷ []) items) ≡ []
  non : values_misfits at (codes "non-orig") (given_non (strands_of_label p items)) items ≡ []
  penetrator_non : values_misfits at (codes "pen-non-orig") (given_penetrator_non (strands_of_label p items)) items ≡ []
  unique : all_uniques_misfits at (strands_of_label p items) items ≡ []
  way : optional_misfits (map_misfits p (scope_of items) (strands_of_label p items)) (item_with (codes "map" ∷ []) items) ≡ []

fit_around : (p : Problem) (at : Place) (items : List Form) → around_strands_misfits p at items ≡ [] → FitAround p at items
fit_around p at items e =
    let strands = strands_of_label p items in
    let none =
    none_in_five (optional_misfits (precedes_misfits strands) (item_with (codes "precedes" ∷ []) items)) (values_misfits at (codes "non-orig") (given_non strands) items)
    (values_misfits at (codes "pen-non-orig") (given_penetrator_non strands) items) (all_uniques_misfits at strands items)
    (optional_misfits (map_misfits p (scope_of items) strands) (item_with (codes "map" ∷ []) items)) e in
    record { order = none.0; non = none.1; penetrator_non = none.2; unique = none.3; way = none.4 }

module _ (p : Problem) (at : Place) (items : List Form) (strands_fit : strands_misfits p items ≡ []) (fit : FitAround p at items) where
  abbrev k : Skeleton
  k = skeleton_stated p items

  abbrev strands : List SkeletonStrand
  strands = strands_of_label p items

  built : AreBuilt strands [] (pairs_under items)
  built = order_built strands (item_with (codes "precedes" ∷ []) items) fit.order

  non_there : (v : AtomTerm) → IsIn v (given_non strands) → IsIn v (atoms_under (codes "non-orig") items)
  non_there = values.given_atoms (atoms_under (codes "non-orig") items) (given_non strands)
      (values.all_given at (item_with (codes "non-orig" ∷ []) items) (atoms_misfits (scope_of items) []) (has_atoms (atoms_under (codes "non-orig") items) (given_non strands)) fit.non)

  penetrator_non_there : (v : AtomTerm) → IsIn v (given_penetrator_non strands) → IsIn v (atoms_under (codes "pen-non-orig") items)
  penetrator_non_there = values.given_atoms (atoms_under (codes "pen-non-orig") items) (given_penetrator_non strands)
      (values.all_given at (item_with (codes "pen-non-orig" ∷ []) items) (atoms_misfits (scope_of items) []) (has_atoms (atoms_under (codes "pen-non-orig") items) (given_penetrator_non strands)) fit.penetrator_non)

  unique_there : (u : UniqueAt) → IsIn u (given_uniques 0 strands) → IsIn u (uniques_under items)
  unique_there = values.given_there (uniques_under items) (given_uniques 0 strands)
      (values.all_given at (item_with (codes "uniq-orig" ∷ []) items) (uniques_misfits (scope_of items) strands []) (has_uniques (uniques_under items) (given_uniques 0 strands)) fit.unique)

  gives : (s : ℕ) (role : Role) (height : ℕ) (terms : List Binding) → item_at strands s ≡ Some (instance role height terms) → GivesAssumptions k s role height terms
  gives s role height terms on = record {
    non = λ v i a. non_there (apply_to_atom (as_substitution terms) v)
        (subst (λ (vs : List AtomTerm). IsIn (apply_to_atom (as_substitution terms) v) vs) (sym (non_given strands)) (given_there (λ r. r.non_originating) strands s role height terms on v i a));
    penetrator_non = λ v i a. penetrator_non_there (apply_to_atom (as_substitution terms) v)
        (subst (λ (vs : List AtomTerm). IsIn (apply_to_atom (as_substitution terms) v) vs) (sym (penetrator_non_given strands)) (given_there (λ r. r.penetrator_non_originating) strands s role height terms on v i a));
    unique = λ v n i a. unique_there (record { value = apply_to_atom (as_substitution terms) v; origin = node_at s n })
        (let q : 0 + s ≡ s = omega arith in
        subst (λ (m : ℕ). IsIn (record { value = apply_to_atom (as_substitution terms) v; origin = node_at m n }) (given_uniques 0 strands)) q (wellformed.given_there 0 strands s role height terms on v n i a));
  }

  is_skeleton : IsSkeleton p.protocol k
  is_skeleton = record {
    of_role = λ s role height terms on. (strands_are_of p items strands_fit s role height terms on).listed;
    heights = λ s role height terms on. (strands_are_of p items strands_fit s role height terms on).reached;
    order_pairs = are_pairs k built;
    no_cycle = no_cycle k built;
    origins = values.have_origins k (scope_of items) [] (entries_under (codes "uniq-orig") items)
        (values.inside_fits at (item_with (codes "uniq-orig" ∷ []) items) (uniques_misfits (scope_of items) strands []) (has_uniques (uniques_under items) (given_uniques 0 strands)) refl fit.unique);
    given = gives;
  }

  own_assumed : HasOwnAssumptions k
  own_assumed = record {
    non = λ v i. atoms.found k.assumptions.non_originating v (from_filter (has_atom k.assumptions.non_originating) _ i).1;
    penetrator_non = λ v i. atoms.found k.assumptions.penetrator_non_originating v (from_filter (has_atom k.assumptions.penetrator_non_originating) _ i).1;
    unique = λ u i. uniques.found k.assumptions.uniquely_originating u (from_filter (has_unique k.assumptions.uniquely_originating) _ i).1;
  }

  -- the images of the problem's own pairs
  abbrev images : List OrderPair
  images = let way = entries_under (codes "map") items in map (pair_image (map_by (strands_mapped way) (values_of_map p (scope_of items) way))) p.skeleton.from_problem.pairs

  is_sound : ((role : Role) → IsIn role p.protocol.roles → DeclaresItsVariables role) → IsSound k
  is_sound declared = record {
    protocol = p.protocol;
    declared = declared;
    skeleton = is_skeleton;
    in_range = strands_there strands p (scope_of items) (item_with (codes "map" ∷ []) items) fit.way;
    assumed = own_assumed;
    ordered = λ q i. in_order k (are_pairs k built) q (from_filter (is_in_order strands (pairs_under items)) images i).1;
  }

pub stated_skeleton : (p : Problem) (at : Place) (items : List Form) → strands_misfits p items ≡ [] → around_strands_misfits p at items ≡ [] → IsSkeleton p.protocol (skeleton_stated p items)
stated_skeleton p at items s a = is_skeleton p at items s (fit_around p at items a)

pub stated_sound : (p : Problem) (at : Place) (items : List Form) → ((role : Role) → IsIn role p.protocol.roles → DeclaresItsVariables role)
    → strands_misfits p items ≡ [] → around_strands_misfits p at items ≡ [] → IsSound (skeleton_stated p items)
stated_sound p at items declared s a = is_sound p at items s (fit_around p at items a) declared
