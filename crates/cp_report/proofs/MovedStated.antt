-- Where the items of a label form stand does not matter for its assumptions, its map and the skeleton as a whole.
use Rattle.std.proofs.Common.{◌≡◌, ℕ, List, [], ◌∷◌, ◌++◌, refl, ◌∙◌, ap}
use Rattle.std.specs.Prelude.{Bool, Option, Some, None, map, not, length, codes, option_map, nat_lt}
use Rattle.cp_base.specs.declared.place.Place.{Place}
use Rattle.cp_model.specs.Term.{AtomTerm}
use Rattle.cp_model.specs.Skeleton.{SkeletonStrand, UniqueAt}
use Rattle.cp_model.specs.Given.{has_unique, given_non, given_penetrator_non, given_uniques}
use Rattle.cp_sexpr.specs.Syntax.{Form}
use Rattle.cp_sexpr.specs.Pieces.{start}
use Rattle.cp_sexpr.specs.ReadBack.{unplaced}
use Rattle.cp_language.specs.Faults.{place_of}
use Rattle.cp_language.specs.Roles.{list_items}
use Rattle.cp_language.specs.Problems.{second_form, number_of, pairs_in, Problem}
use Rattle.cp_report.specs.Misfits.{misfit_unless, lacking, each_misfits, entries_misfits}
use Rattle.cp_report.specs.Heads.{forms_after_head, item_with, items_with, entries_under, optional_misfits, strand_heads}
use Rattle.cp_report.specs.Spelled.{Scope, atom_misfits, atom_in}
use Rattle.cp_report.specs.Skeletons.{vars_misfits, scope_of, strand_misfits, strands_of_label, node_misfits, precedes_misfits, atoms_misfits, has_atoms, has_uniques, assumption_misfits, atoms_under, values_misfits, may_be_origin, unique_of, second_place, unique_misfits, uniques_misfits, uniques_under, all_uniques_misfits, problem_variables, strand_number_misfits, map_misfits, strands_mapped, values_of_map, from_problem_by, pairs_under, assumptions_stated, from_problem_of, vars_item_misfits, strands_misfits, around_strands_misfits, skeleton_stated}
use Rattle.cp_report.proofs.Moved.{at_start, all_moved, IsMoved, IsMovedInside, both, unless_moved, test_moved, place_moved, entries_moved, each_moved, lacking_moved, AreMoved, entries_misfits_moved, number_moved, list_moved}
use Rattle.cp_report.proofs.MovedTerms.{test_at_form, atom_misfits_moved, atom_in_moved}
use Rattle.cp_report.proofs.MovedItems.{map_moved, item_moved, items_with_moved, entries_under_moved, list_items_moved, number_of_moved, second_moved, scope_moved, vars_moved, mapping_moved, values_moved}
use Rattle.cp_report.proofs.MovedSkeletons.{inside_moved, strand_misfits_moved, strands_moved, node_misfits_moved, pairs_in_moved, precedes_moved, atoms_moved, unique_moved, second_place_moved}

-- What is asked of an item that may be left out.
pub optional_moved : (inside : Place → List Form → List Place) → IsMovedInside inside → (o : Option Form) → optional_misfits inside (option_map unplaced o) ≡ at_start (optional_misfits inside o)
optional_moved inside m None = refl
optional_moved inside m (Some f) = inside_moved inside m f

pub item_misfits_moved : (heads : List (List ℕ)) (inside : Place → List Form → List Place) → IsMovedInside inside → (items : List Form) →
    optional_misfits inside (item_with heads (all_moved items)) ≡ at_start (optional_misfits inside (item_with heads items))
item_misfits_moved heads inside m items = ap (optional_misfits inside) (item_moved heads items) ∙ optional_moved inside m (item_with heads items)

-- ---- assumptions

some_moved : (inside inside' : List Form → List Place) → ((fs : List Form) → inside' (all_moved fs) ≡ at_start (inside fs)) → (at : Place) (fs : List Form) → lacking 1 start (all_moved fs) ++ inside' (all_moved fs) ≡ at_start (lacking 1 at fs ++ inside fs)
some_moved inside inside' m at fs = both _ _ _ _ (lacking_moved 1 at fs) (m fs)

assumption_moved : (inside inside' : List Form → List Place) → ((fs : List Form) → inside' (all_moved fs) ≡ at_start (inside fs)) → (at : Place) (o : Option Form) (b c : Bool) → b ≡ c →
    assumption_misfits start (option_map unplaced o) inside' b ≡ at_start (assumption_misfits at o inside c)
assumption_moved inside inside' m at None b c e = test_moved b c at e
assumption_moved inside inside' m at (Some f) b c e =
    unless_moved _ _ _ _
    (ap (λ p. lacking 1 p (forms_after_head (unplaced f)) ++ inside' (forms_after_head (unplaced f))) (place_moved f)
    ∙ ap (λ fs. lacking 1 start fs ++ inside' fs) (entries_moved f) ∙ some_moved inside inside' m (place_of f) (forms_after_head f))
    (test_at_form b c f e)

pub atoms_under_moved : (head : List ℕ) (items : List Form) → atoms_under head (all_moved items) ≡ atoms_under head items
atoms_under_moved head items =
    ap (λ s. map (atom_in s) (entries_under head (all_moved items))) (scope_moved items) ∙ ap (map (atom_in (scope_of items))) (entries_under_moved head items)
    ∙ map_moved (atom_in (scope_of items)) (atom_in_moved (scope_of items)) (entries_under head items)

pub uniques_under_moved : (items : List Form) → uniques_under (all_moved items) ≡ uniques_under items
uniques_under_moved items =
    ap (λ s. map (unique_of s) (entries_under (codes "uniq-orig") (all_moved items))) (scope_moved items) ∙ ap (map (unique_of (scope_of items))) (entries_under_moved (codes "uniq-orig") items)
    ∙ map_moved (unique_of (scope_of items)) (unique_moved (scope_of items)) (entries_under (codes "uniq-orig") items)

values_misfits_moved : (at : Place) (head : List ℕ) (given : List AtomTerm) (items : List Form) → values_misfits start head given (all_moved items) ≡ at_start (values_misfits at head given items)
values_misfits_moved at head given items =
    ap (λ o. assumption_misfits start o (atoms_misfits (scope_of (all_moved items)) []) (has_atoms (atoms_under head (all_moved items)) given)) (item_moved (head ∷ []) items)
    ∙ assumption_moved (atoms_misfits (scope_of items) []) (atoms_misfits (scope_of (all_moved items)) [])
    (λ fs. ap (λ s. atoms_misfits s [] (all_moved fs)) (scope_moved items) ∙ atoms_moved (scope_of items) [] fs) at (item_with (head ∷ []) items) _ _
    (ap (λ vs. has_atoms vs given) (atoms_under_moved head items))

unique_misfits_moved : (s : Scope) (strands : List SkeletonStrand) (before : List UniqueAt) → IsMoved (unique_misfits s strands before)
unique_misfits_moved s strands before f =
    unless_moved _ _ _ _
    (list_moved (entries_misfits (atom_misfits s ∷ node_misfits strands ∷ [])) (λ at fs. entries_misfits_moved (atom_misfits s ∷ node_misfits strands ∷ []) at fs (atom_misfits_moved s, (node_misfits_moved strands, tt))) f)
    (unless_moved _ _ _ _
    (ap (misfit_unless (may_be_origin strands (unique_of s (unplaced f)).value (unique_of s (unplaced f)).origin))
    (ap (λ gs. second_place (unplaced f) (second_form gs)) (list_items_moved f) ∙ ap (second_place (unplaced f)) (second_moved (list_items f)) ∙ second_place_moved f (second_form (list_items f)))
    ∙ test_moved _ (may_be_origin strands (unique_of s f).value (unique_of s f).origin) (second_place f (second_form (list_items f))) (ap (λ u. may_be_origin strands u.value u.origin) (unique_moved s f)))
    (test_at_form _ (not (has_unique before (unique_of s f))) f (ap (λ u. not (has_unique before u)) (unique_moved s f))))

uniques_misfits_moved : (s : Scope) (strands : List SkeletonStrand) (before : List UniqueAt) (fs : List Form) → uniques_misfits s strands before (all_moved fs) ≡ at_start (uniques_misfits s strands before fs)
uniques_misfits_moved s strands before [] = refl
uniques_misfits_moved s strands before (f ∷ fs) =
    both _ _ _ _ (unique_misfits_moved s strands before f)
    (ap (λ u. uniques_misfits s strands (before ++ u ∷ []) (all_moved fs)) (unique_moved s f) ∙ uniques_misfits_moved s strands (before ++ unique_of s f ∷ []) fs)

all_uniques_moved : (at : Place) (strands : List SkeletonStrand) (items : List Form) → all_uniques_misfits start strands (all_moved items) ≡ at_start (all_uniques_misfits at strands items)
all_uniques_moved at strands items =
    ap (λ o. assumption_misfits start o (uniques_misfits (scope_of (all_moved items)) strands []) (has_uniques (uniques_under (all_moved items)) (given_uniques 0 strands))) (item_moved (codes "uniq-orig" ∷ []) items)
    ∙ assumption_moved (uniques_misfits (scope_of items) strands []) (uniques_misfits (scope_of (all_moved items)) strands [])
    (λ fs. ap (λ s. uniques_misfits s strands [] (all_moved fs)) (scope_moved items) ∙ uniques_misfits_moved (scope_of items) strands [] fs) at (item_with (codes "uniq-orig" ∷ []) items) _ _
    (ap (λ us. has_uniques us (given_uniques 0 strands)) (uniques_under_moved items))

-- ---- the map

strand_kinds_moved : (strands ks : List SkeletonStrand) → AreMoved (map (λ k. strand_number_misfits strands) ks)
strand_kinds_moved strands [] = tt
strand_kinds_moved strands (k ∷ ks) = (number_moved (λ n. nat_lt n (length strands)), strand_kinds_moved strands ks)

map_misfits_moved : (p : Problem) (s : Scope) (strands : List SkeletonStrand) → IsMovedInside (map_misfits p s strands)
map_misfits_moved p s strands at [] = refl
map_misfits_moved p s strands at (f ∷ maplets) =
    both _ _ _ _
    (list_moved (entries_misfits (map (λ k. strand_number_misfits strands) p.skeleton.strands)) (λ q fs. entries_misfits_moved (map (λ k. strand_number_misfits strands) p.skeleton.strands) q fs (strand_kinds_moved strands p.skeleton.strands)) f)
    (mapping_moved s (problem_variables p) at maplets)

strands_mapped_moved : (fs : List Form) → strands_mapped (all_moved fs) ≡ strands_mapped fs
strands_mapped_moved [] = refl
strands_mapped_moved (f ∷ fs) = ap (map number_of) (list_items_moved f) ∙ map_moved number_of number_of_moved (list_items f)

values_of_map_moved : (p : Problem) (s : Scope) (fs : List Form) → values_of_map p s (all_moved fs) ≡ values_of_map p s fs
values_of_map_moved p s [] = refl
values_of_map_moved p s (f ∷ maplets) = values_moved s maplets (problem_variables p)

-- ---- the whole

pairs_under_moved : (items : List Form) → pairs_under (all_moved items) ≡ pairs_under items
pairs_under_moved items = ap pairs_in (entries_under_moved (codes "precedes") items) ∙ pairs_in_moved (entries_under (codes "precedes") items)

assumptions_moved : (items : List Form) → assumptions_stated (all_moved items) ≡ assumptions_stated items
assumptions_moved items =
    let a = atoms_under_moved (codes "non-orig") items in let b = atoms_under_moved (codes "pen-non-orig") items in let c = uniques_under_moved items in
    λ i. record { non_originating = a i; penetrator_non_originating = b i; uniquely_originating = c i }

from_problem_moved : (p : Problem) (items : List Form) → from_problem_of p (all_moved items) ≡ from_problem_of p items
from_problem_moved p items =
    let k = strands_moved p items in let o = pairs_under_moved items in let a = assumptions_moved items in
    let ms = ap strands_mapped (entries_under_moved (codes "map") items) ∙ strands_mapped_moved (entries_under (codes "map") items) in
    let vs = ap (λ s. values_of_map p s (entries_under (codes "map") (all_moved items))) (scope_moved items)
    ∙ ap (values_of_map p (scope_of items)) (entries_under_moved (codes "map") items) ∙ values_of_map_moved p (scope_of items) (entries_under (codes "map") items) in
    λ i. from_problem_by p (k i) (o i) (a i) (ms i) (vs i)

-- The skeleton that is stated is the same.
pub skeleton_moved : (p : Problem) (items : List Form) → skeleton_stated p (all_moved items) ≡ skeleton_stated p items
skeleton_moved p items =
    let k = strands_moved p items in let o = pairs_under_moved items in let a = assumptions_moved items in let w = from_problem_moved p items in
    λ i. record { variables = (scope_moved items i).variables; strands = k i; pairs = o i; assumptions = a i; from_problem = w i }

pub vars_item_moved : (items : List Form) → vars_item_misfits (all_moved items) ≡ at_start (vars_item_misfits items)
vars_item_moved items = item_misfits_moved (codes "vars" ∷ []) (λ at fs. lacking 1 at fs ++ vars_misfits [] fs) (λ at fs. both _ _ _ _ (lacking_moved 1 at fs) (vars_moved [] fs)) items

pub strands_misfits_moved : (p : Problem) (items : List Form) → strands_misfits p (all_moved items) ≡ at_start (strands_misfits p items)
strands_misfits_moved p items =
    ap (λ s. each_misfits (strand_misfits p.protocol.roles s) (items_with strand_heads (all_moved items))) (scope_moved items)
    ∙ ap (each_misfits (strand_misfits p.protocol.roles (scope_of items))) (items_with_moved strand_heads items)
    ∙ each_moved (strand_misfits p.protocol.roles (scope_of items)) (strand_misfits_moved p.protocol.roles (scope_of items)) (items_with strand_heads items)

pub around_moved : (p : Problem) (at : Place) (items : List Form) → around_strands_misfits p start (all_moved items) ≡ at_start (around_strands_misfits p at items)
around_moved p at items =
    let ks = strands_of_label p items in
    both _ _ _ _ (both _ _ _ _ (both _ _ _ _ (both _ _ _ _
    (ap (λ k. optional_misfits (precedes_misfits k) (item_with (codes "precedes" ∷ []) (all_moved items))) (strands_moved p items) ∙ item_misfits_moved (codes "precedes" ∷ []) (precedes_misfits ks) (precedes_moved ks) items)
    (ap (λ k. values_misfits start (codes "non-orig") (given_non k) (all_moved items)) (strands_moved p items) ∙ values_misfits_moved at (codes "non-orig") (given_non ks) items))
    (ap (λ k. values_misfits start (codes "pen-non-orig") (given_penetrator_non k) (all_moved items)) (strands_moved p items) ∙ values_misfits_moved at (codes "pen-non-orig") (given_penetrator_non ks) items))
    (ap (λ k. all_uniques_misfits start k (all_moved items)) (strands_moved p items) ∙ all_uniques_moved at ks items))
    (ap (λ k. optional_misfits (map_misfits p (scope_of (all_moved items)) k) (item_with (codes "map" ∷ []) (all_moved items))) (strands_moved p items)
    ∙ ap (λ s. optional_misfits (map_misfits p s ks) (item_with (codes "map" ∷ []) (all_moved items))) (scope_moved items)
    ∙ item_misfits_moved (codes "map" ∷ []) (map_misfits p (scope_of items) ks) (map_misfits_moved p (scope_of items) ks) items)
