-- Candidates embed in each other as their labels do.
use Rattle.std.proofs.Common.{◌≡◌, ℕ, List, map, Some, sym, ap, ◌∙◌, subst}
use Rattle.cp_lists.specs.Lists.{item_at}
use Rattle.cp_model.specs.Skeleton.{Skeleton}
use Rattle.cp_model.specs.Homomorphism.{Embeds}
use Rattle.cp_model.specs.Tree.{Label}
use Rattle.cp_shapes.specs.Shapes.{EmbedsAt}
use Rattle.cp_shapes.proofs.Instances.{same_item}
use Rattle.cp_tree.specs.Candidates.{Candidate, IsCandidate, AreCandidates, skeletons_of, IsLabelAt}
use Rattle.cp_tree.proofs.Picked.{skeleton_at_place, skeleton_at_number}

-- Two skeletons that stand in two lists embed in the one as in the other.
embeds_there : (ks ls : List Skeleton) (m n q p : ℕ) (x y : Skeleton) → item_at ks m ≡ Some x → item_at ks n ≡ Some y → item_at ls q ≡ Some x → item_at ls p ≡ Some y → EmbedsAt ks m n → EmbedsAt ls q p
embeds_there ks ls m n q p x y at_m at_n at_q at_p e =
    let first : e.first ≡ x = same_item ks m e.first x e.at_first at_m in
    let second : e.second ≡ y = same_item ks n e.second y e.at_second at_n in
    record { first = x; second = y; at_first = at_q; at_second = at_p; embeds = subst (λ (a : Skeleton). Embeds a y) first (subst (Embeds e.first) second e.embeds) }

module _ (labels : List Label) (cs : List Candidate) (are : AreCandidates labels cs) where
  abbrev ks : List Skeleton
  ks = map (λ (l : Label). l.skeleton) labels

  at_place : (p i : ℕ) (a : IsLabelAt cs p i) → item_at (skeletons_of cs) p ≡ Some a.candidate.skeleton
  at_place p i a = skeleton_at_place IsCandidate (λ (x : Label). x.skeleton) labels cs are p i a

  at_number : (p i : ℕ) (a : IsLabelAt cs p i) → item_at ks i ≡ Some a.candidate.skeleton
  at_number p i a = skeleton_at_number IsCandidate (λ (x : Label). x.skeleton) labels cs are p i a

  pub as_labels : (p q i n : ℕ) → IsLabelAt cs p i → IsLabelAt cs q n → EmbedsAt (skeletons_of cs) q p → EmbedsAt ks n i
  as_labels p q i n a c e = embeds_there (skeletons_of cs) ks q p n i c.candidate.skeleton a.candidate.skeleton (at_place q n c) (at_place p i a) (at_number q n c) (at_number p i a) e

  pub as_candidates : (p q i n : ℕ) → IsLabelAt cs p i → IsLabelAt cs q n → EmbedsAt ks n i → EmbedsAt (skeletons_of cs) q p
  as_candidates p q i n a c e = embeds_there ks (skeletons_of cs) n i q p c.candidate.skeleton a.candidate.skeleton (at_number q n c) (at_number p i a) (at_place q n c) (at_place p i a) e

  -- A candidate is one label.
  pub one_label : (p q i j : ℕ) → IsLabelAt cs p i → IsLabelAt cs q j → p ≡ q → i ≡ j
  one_label p q i j a b e =
      let f : Some a.candidate ≡ Some b.candidate = sym a.at ∙ (ap (item_at cs) e ∙ b.at) in
      let same : a.candidate ≡ b.candidate = cc in
      sym a.number ∙ (ap (λ (c : Candidate). c.number) same ∙ b.number)
