-- The variables of what comes from a skeleton by a substitution, and so of normal forms, are declared.
use Rattle.std.proofs.Common.{List}
use Rattle.cp_lists.specs.Lists.{IsIn}
use Rattle.cp_model.specs.declared.variable.Declaration.{Declaration}
use Rattle.cp_model.specs.Skeleton.{Skeleton}
use Rattle.cp_model.specs.declared.node.OrderPair.{OrderPair}
use Rattle.cp_model.specs.PointOfView.{HasDeclaredVariables}
use Rattle.cp_theory.specs.Normal.{skeleton_under, with_pairs}
use Rattle.cp_normal.specs.BySubstitution.{ComesBySubstitution}
use Rattle.cp_normal.specs.Exact.{HasForms}
use Rattle.cp_normal.proofs.BySubstitution.{form_comes}
use Rattle.cp_normal.proofs.FormsOf.{are_normal_forms}
use Rattle.cp_normal.proofs.VariablesUnder.{all_declared, given_under, agreeing_declared}

module _ (ds : List Declaration) where
  with_pairs_declared : (k : Skeleton) (pairs : List OrderPair) → HasDeclaredVariables ds k → HasDeclaredVariables ds (with_pairs k pairs)
  with_pairs_declared k pairs h = record { occurring = h.occurring; mapped = h.mapped }

  pub comes_declared : (k r : Skeleton) → ComesBySubstitution k r → HasDeclaredVariables ds k → HasDeclaredVariables ds r
  comes_declared k r c h =
      let under : Skeleton = skeleton_under c.substitution k in
      agreeing_declared ds (with_pairs under r.pairs) r c.same
      (with_pairs_declared under r.pairs (given_under ds c.substitution k (λ x y i j. all_declared ds k h y (c.stays_within.within x y i j))))

  pub forms_declared : {k : Skeleton} {rs : List Skeleton} → HasForms k rs → HasDeclaredVariables ds k → (r : Skeleton) → IsIn r rs → HasDeclaredVariables ds r
  forms_declared {k} has h r i = comes_declared k r (form_comes k r (are_normal_forms has r i)) h
