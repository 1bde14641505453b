-- The skeletons of the labels that are left.
use Rattle.std.proofs.Common.{◌≡◌, ℕ, zero, suc, List, [], ◌∷◌, Option, Some, None, refl, subst}
use Rattle.cp_lists.specs.Lists.{item_at, IsIn, there}
use Rattle.cp_model.specs.Skeleton.{Skeleton}
use Rattle.cp_model.specs.Tree.{Label, if_shape, if_left, skeletons_left}
use Rattle.cp_model.specs.declared.tree.Mark.{Mark}
use Rattle.cp_model.specs.declared.tree.Mark.TheVariants.{Shape as shape, Dead as dead, Seen as seen, InstanceOf as instance_of, LimitSteps as limit_steps, LimitStrands as limit_strands}

left_behind : (mark : Option Mark) (k l : Skeleton) (ks : List Skeleton) → IsIn l ks → IsIn l (if_left mark k ks)
left_behind None k l ks i = i
left_behind (Some shape) k l ks i = there i
left_behind (Some dead) k l ks i = i
left_behind (Some (seen n)) k l ks i = i
left_behind (Some (instance_of n)) k l ks i = i
left_behind (Some limit_steps) k l ks i = there i
left_behind (Some limit_strands) k l ks i = there i

-- The skeleton of a label is listed where its mark says that it is left.
pub listed_where_left : (labels : List Label) (i : ℕ) (l : Label) → item_at labels i ≡ Some l → ((k : Skeleton) (ks : List Skeleton) → IsIn k (if_left l.mark k ks)) → IsIn l.skeleton (skeletons_left labels)
listed_where_left [] i l at left = absurd (cc)
listed_where_left (m ∷ ms) zero l at left =
    let same : l ≡ m = cc in
    subst (λ (x : Label). IsIn l.skeleton (if_left x.mark x.skeleton (skeletons_left ms))) same (left l.skeleton (skeletons_left ms))
listed_where_left (m ∷ ms) (suc i) l at left = left_behind m.mark m.skeleton l.skeleton (skeletons_left ms) (listed_where_left ms i l at left)

-- A label that is at no limit is left where it is a shape.
pub left_is_shape : (mark : Option Mark) (k : Skeleton) (ks : List Skeleton) → (mark ≡ Some limit_steps → ⊥) → (mark ≡ Some limit_strands → ⊥) → if_left mark k ks ≡ if_shape mark k ks
left_is_shape None k ks a c = refl
left_is_shape (Some shape) k ks a c = refl
left_is_shape (Some dead) k ks a c = refl
left_is_shape (Some (seen n)) k ks a c = refl
left_is_shape (Some (instance_of n)) k ks a c = refl
left_is_shape (Some limit_steps) k ks a c = absurd (a refl)
left_is_shape (Some limit_strands) k ks a c = absurd (c refl)
