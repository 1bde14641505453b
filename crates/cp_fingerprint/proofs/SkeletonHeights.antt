-- The fingerprint of a sound skeleton is in order, and its heights are from 1.
use Rattle.std.proofs.Common.{◌≡◌, ℕ, suc, ◌≤◌, List, [], ◌∷◌, refl, ap, ◌∙◌}
use Rattle.std.specs.Prelude.{Some}
use Rattle.std.specs.List.Sorted.{IsPermutation, IsSortedBy}
use Rattle.std.specs.Ordering.{is_lt}
use Rattle.cp_lists.specs.Lists.{item_at}
use Rattle.cp_model.specs.Strand.{Role}
use Rattle.cp_model.specs.Bindings.{Binding}
use Rattle.cp_model.specs.Skeleton.{SkeletonStrand, instance, listener, Skeleton}
use Rattle.cp_skel.specs.Sound.{IsSound}
use Rattle.cp_fingerprint.specs.Sorted.{sorted_by}
use Rattle.cp_fingerprint.specs.Fingerprints.{heights_of, by_name_and_height, fingerprint_of}
use Rattle.cp_fingerprint.specs.InTurn.{IsInOrder}
use Rattle.cp_fingerprint.specs.declared.heights.RoleHeight.{RoleHeight}
use Rattle.cp_fingerprint.proofs.Listed.{AllOf, one_or_rest}
use Rattle.cp_fingerprint.proofs.NoMore.{total_order, tells_apart}
use Rattle.cp_fingerprint.proofs.SortedLists.{sorted_all, sorted_ascends, is_sorted}

heights_from_one : (ss : List SkeletonStrand) → ((s : ℕ) (role : Role) (height : ℕ) (terms : List Binding) → item_at ss s ≡ Some (instance role height terms) → 1 ≤ height) → AllOf (λ x. 1 ≤ x.height) (heights_of ss)
heights_from_one [] low = λ x p. elim p [ ]
heights_from_one (listener t ∷ ss) low = heights_from_one ss (λ s. low (suc s))
heights_from_one (instance role height terms ∷ ss) low =
    one_or_rest (λ x. 1 ≤ x.height) (record { name = role.name; height = height }) (heights_of ss) (low 0 role height terms refl) (heights_from_one ss (λ s. low (suc s)))

pub sound_in_order : (k : Skeleton) → IsSound k → IsInOrder (fingerprint_of k)
sound_in_order k sound = record {
  ascending = sorted_ascends by_name_and_height total_order (heights_of k.strands);
  from_one = sorted_all by_name_and_height (λ x. 1 ≤ x.height) (heights_of k.strands) (heights_from_one k.strands (λ s role height terms at. (sound.skeleton.heights s role height terms at).0));
}

-- What a sort makes of the heights of a skeleton is its fingerprint.
pub sorts_heights : (k : Skeleton) (xs zs : List RoleHeight) → xs ≡ heights_of k.strands → IsPermutation xs zs → IsSortedBy (λ x y. is_lt (by_name_and_height x y)) zs → zs ≡ fingerprint_of k
sorts_heights k xs zs is moved up = is_sorted by_name_and_height total_order tells_apart xs zs moved up ∙ ap (sorted_by by_name_and_height) is
