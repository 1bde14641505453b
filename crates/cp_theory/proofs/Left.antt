-- Labels that are left, and labels with numbers.
use Rattle.std.proofs.Common.{◌≡◌, ℕ, List, [], ◌∷◌, Option, Some, None, refl, ap, ◌∙◌, ⊎_elim}
use Rattle.cp_lists.specs.Lists.{item_at, IsIn, here, there}
use Rattle.cp_lists.proofs.Members.{head_or_behind, not_in_none}
use Rattle.cp_model.specs.Skeleton.{Skeleton}
use Rattle.cp_model.specs.Tree.{Label, if_shape, shapes_of, if_left, skeletons_left}
use Rattle.cp_model.specs.declared.tree.Mark.{Mark}
use Rattle.cp_theory.proofs.LabelsLeft.{listed_where_left, left_is_shape}
use Rattle.cp_theory.specs.Lawful.{with_label, skeletons_at, IsLeft, at_shape, at_step_bound, at_strand_bound, IsWithinLimits}

left_first : {mark : Option Mark} (k : Skeleton) (ks : List Skeleton) → IsLeft mark → IsIn k (if_left mark k ks)
left_first k ks at_shape = here
left_first k ks at_step_bound = here
left_first k ks at_strand_bound = here

-- The skeleton of a label that is left is listed.
pub left_listed : (labels : List Label) (i : ℕ) (l : Label) → item_at labels i ≡ Some l → IsLeft l.mark → IsIn l.skeleton (skeletons_left labels)
left_listed labels i l at left = listed_where_left labels i l at (λ k ks. left_first k ks left)

-- Where no label is at a limit, the shapes alone are left.
pub left_are_shapes : (labels : List Label) → IsWithinLimits labels → skeletons_left labels ≡ shapes_of labels
left_are_shapes [] within = refl
left_are_shapes (l ∷ ls) within =
    left_is_shape l.mark l.skeleton (skeletons_left ls) (within.within_steps l here) (within.within_strands l here)
    ∙ ap (if_shape l.mark l.skeleton) (left_are_shapes ls (record { within_steps = λ m i. within.within_steps m (there i); within_strands = λ m i. within.within_strands m (there i) }))

-- A label of this skeleton is at one of the numbers.
pub record IsLabelAmong (labels : List Label) (ns : List ℕ) (k : Skeleton) : Type 0 where
  pub number : ℕ
  pub listed : IsIn number ns
  pub label : Label
  pub at : item_at labels number ≡ Some label
  pub same : k ≡ label.skeleton

among_more : (labels : List Label) (n : ℕ) (ns : List ℕ) (k : Skeleton) → IsLabelAmong labels ns k → IsLabelAmong labels (n ∷ ns) k
among_more labels n ns k a = record { number = a.number; listed = there a.listed; label = a.label; at = a.at; same = a.same }

among_cases : (labels : List Label) (n : ℕ) (ns : List ℕ) (k : Skeleton) (o : Option Label) → item_at labels n ≡ o → IsIn k (with_label o (skeletons_at labels ns)) → (IsIn k (skeletons_at labels ns) → IsLabelAmong labels ns k) → IsLabelAmong labels (n ∷ ns) k
among_cases labels n ns k None at i rest = among_more labels n ns k (rest i)
among_cases labels n ns k (Some l) at i rest = ⊎_elim (λ same. record { number = n; listed = here; label = l; at = at; same = same }) (λ j. among_more labels n ns k (rest j)) (head_or_behind i)

pub label_among : (labels : List Label) (ns : List ℕ) (k : Skeleton) → IsIn k (skeletons_at labels ns) → IsLabelAmong labels ns k
label_among labels [] k i = absurd (not_in_none i)
label_among labels (n ∷ ns) k i = among_cases labels n ns k (item_at labels n) refl i (label_among labels ns k)
