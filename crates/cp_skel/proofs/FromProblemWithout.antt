-- What a skeleton has from its problem it keeps without a strand to which no strand of the problem goes.
use Rattle.std.proofs.Common.{◌≡◌, ◌≢◌, inl, inr, ℕ, ◌<◌, List, length, sym, ap, ◌∙◌, subst}
use Rattle.std.specs.List.{remove}
use Rattle.cp_lists.specs.Lists.{item_at, IsIn}
use Rattle.cp_model.specs.Skeleton.{SkeletonStrand, Skeleton, Before}
use Rattle.cp_model.specs.declared.node.OrderPair.{OrderPair}
use Rattle.cp_model.specs.Stated.{HasOwnAssumptions}
use Rattle.cp_lists.proofs.Items.{item_below, item_there}
use Rattle.cp_lists.proofs.Members.{from_map}
use Rattle.cp_skel.specs.Deletion.{renumbered, unique_renumbered, pair_renumbered, as_it_is, IsOriginOn, IsPairOn, IsForgottenNon, IsForgottenPenetratorNon, ForgetsAssumptions, KeepsFromProblem, KeepsOrderOfOthers}
use Rattle.cp_skel.proofs.NumbersWithout.{restored_renumbered, item_without}
use Rattle.cp_skel.proofs.PairsWithout.{in_left, was_left}

still_there : (strands : List SkeletonStrand) (d s : ℕ) → s ≢ d → s < length strands → renumbered d s < length (remove strands d)
still_there strands d s other below =
    let st = item_there strands s below in
    item_below (remove strands d) (renumbered d s) st.0 (item_without strands d (renumbered d s) ∙ ap (item_at strands) (restored_renumbered d s other) ∙ st.1)

module _ (d : ℕ) (old new : Skeleton) (from : KeepsFromProblem d old.from_problem new.from_problem) where
  -- each entry of the map is one of the strands
  pub in_range_without : new.strands ≡ remove old.strands d → (IsIn d old.from_problem.strands → ⊥) → ((s : ℕ) → IsIn s old.from_problem.strands → s < length old.strands) →
      (s : ℕ) → IsIn s new.from_problem.strands → s < length new.strands
  in_range_without strands no_image in_range s i =
      let was = from_map (renumbered d) old.from_problem.strands (subst (IsIn s) from.strands i) in
      let other : was.0 ≢ d = λ e. no_image (subst (λ n. IsIn n old.from_problem.strands) e was.1) in
      subst (λ n. n < length new.strands) was.2 (subst (λ (ss : List SkeletonStrand). renumbered d was.0 < length ss) (sym strands) (still_there old.strands d was.0 other (in_range was.0 was.1)))

  -- the own assumptions are among its assumptions
  pub assumed_without : ForgetsAssumptions d old new.assumptions → HasOwnAssumptions old → HasOwnAssumptions new
  assumed_without kept own = record {
    non = λ v i.
        let was : IsIn v old.from_problem.assumptions.non_originating = subst (IsIn v) from.non i in
        in_left (IsForgottenNon old d) as_it_is old.assumptions.non_originating new.assumptions.non_originating v kept.non (own.non v was) (λ f. f.not_own was);
    penetrator_non = λ v i.
        let was : IsIn v old.from_problem.assumptions.penetrator_non_originating = subst (IsIn v) from.penetrator_non i in
        in_left (IsForgottenPenetratorNon old d) as_it_is old.assumptions.penetrator_non_originating new.assumptions.penetrator_non_originating v kept.penetrator_non (own.penetrator_non v was) (λ f. f.not_own was);
    unique = λ u i.
        let was = was_left (IsOriginOn d) (unique_renumbered d) old.from_problem.assumptions.uniquely_originating new.from_problem.assumptions.uniquely_originating u from.unique i in
        subst (λ w. IsIn w new.assumptions.uniquely_originating) (sym was.same)
        (in_left (IsOriginOn d) (unique_renumbered d) old.assumptions.uniquely_originating new.assumptions.uniquely_originating was.item kept.unique (own.unique was.item was.listed) was.not_gone);
  }

  -- the own pairs are in its order
  pub ordered_without : KeepsOrderOfOthers d old new → ((p : OrderPair) → IsIn p old.from_problem.pairs → Before old p.earlier p.later) →
      (p : OrderPair) → IsIn p new.from_problem.pairs → Before new p.earlier p.later
  ordered_without others ordered p i =
      let was = was_left (IsPairOn d) (pair_renumbered d) old.from_problem.pairs new.from_problem.pairs p from.pairs i in
      subst (λ (q : OrderPair). Before new q.earlier q.later) (sym was.same)
      ((others was.item.earlier was.item.later (λ e. was.not_gone (inl e)) (λ e. was.not_gone (inr e))).1 (ordered was.item was.listed))
