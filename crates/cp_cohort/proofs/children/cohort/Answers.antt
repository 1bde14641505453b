use Rattle.std.proofs.Common.{◌≡◌, [], map, sym, subst}
use Rattle.std.specs.Prelude.{IfOk}
use Rattle.cp_lists.specs.Lists.{IsIn}
use Rattle.cp_model.specs.Bundle.{Bundle, IsBundle}
use Rattle.cp_model.specs.Standing.{Standing, StandsIn, StandsApart}
use Rattle.cp_theory.specs.Guards.{Guards}
use Rattle.cp_theory.specs.NoneLeftOut.{IsComplete}
use Rattle.cp_derive.specs.AtTest.{SkeletonTest}
use Rattle.cp_cohort.specs.Asked.{IsAskedOver}
use Rattle.cp_cohort.specs.Cohort.{IsCohort, guarded_test_of}
use Rattle.cp_cohort.specs.CoveringChildren.{Child}
use Rattle.cp_cohort.specs.Released.{HasItsOperation}
use Rattle.cp_cohort.specs.Sound.{IsSoundChild}
use Rattle.cp_cohort.specs.Through.{GoesThroughChild}
use Rattle.cp_cohort.proofs.children.cohort.Goals as goal

pub cohort_at-requires : goal.cohort_at-requires
cohort_at-requires c = record { guards = subst (λ (t : SkeletonTest). Guards c.args.patterns.now t.skeleton t.node t.critical) (sym c.in_ok-test.ensures) c.requires.guards }

pub returns : goal.returns
returns c =
    let protocol = c.args.protocol.now in
    let ps = c.args.patterns.now in
    let e = c.in_ok-test.ensures in
    record {
      exact = subst (λ (t : SkeletonTest). IfOk c.cohort_at.result (λ cs. IsCohort protocol (guarded_test_of t.skeleton t.node t.critical ps) cs.items)) e c.cohort_at.ensures.exact;
      leaves_none_out = subst (λ (t : SkeletonTest). IfOk c.cohort_at.result (λ cs. IsAskedOver protocol (guarded_test_of t.skeleton t.node t.critical ps) → IsComplete protocol t.skeleton (map (λ (c : Child). c.skeleton) cs.items))) e c.cohort_at.ensures.leaves_none_out;
      through_a_child = subst (λ (t : SkeletonTest). IfOk c.cohort_at.result (λ cs. IsAskedOver protocol (guarded_test_of t.skeleton t.node t.critical ps)
          → (b : Bundle) (h : Standing) → IsBundle protocol b → StandsIn t.skeleton b h → StandsApart t.skeleton h → GoesThroughChild (guarded_test_of t.skeleton t.node t.critical ps) cs.items b h)) e c.cohort_at.ensures.through_a_child;
      none_only_nowhere = subst (λ (t : SkeletonTest). IfOk c.cohort_at.result (λ cs. cs.items ≡ [] → IsAskedOver protocol (guarded_test_of t.skeleton t.node t.critical ps)
          → (b : Bundle) (h : Standing) → IsBundle protocol b → StandsIn t.skeleton b h → StandsApart t.skeleton h → ⊥)) e c.cohort_at.ensures.none_only_nowhere;
      sound = subst (λ (t : SkeletonTest). IfOk c.cohort_at.result (λ cs. IsAskedOver protocol (guarded_test_of t.skeleton t.node t.critical ps) → (c : Child) → IsIn c cs.items → IsSoundChild protocol (guarded_test_of t.skeleton t.node t.critical ps) c)) e c.cohort_at.ensures.sound;
      as_said = subst (λ (t : SkeletonTest). IfOk c.cohort_at.result (λ cs. (c : Child) → IsIn c cs.items → HasItsOperation (guarded_test_of t.skeleton t.node t.critical ps) c)) e c.cohort_at.ensures.as_said;
    }
