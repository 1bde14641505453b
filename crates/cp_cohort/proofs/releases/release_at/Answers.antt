use Rattle.std.proofs.Common.{refl, sym, subst}
use Rattle.std.proofs.lemmas.Result.{on_ok_weaker}
use Rattle.cp_pattern.specs.Unifiers.{UnifiesMostGenerally, NeverEqual}
use Rattle.cp_unify.specs.Bindings.{as_substitution}
use Rattle.cp_cohort.specs.Cohort.{GuardedTest, release_at}
use Rattle.cp_cohort.specs.Releases.{PartialSolution}
use Rattle.cp_cohort.specs.Stages.{SolvesRelease, on_the_way}
use Rattle.cp_cohort.specs.Views.{operation_of_made}
use Rattle.cp_cohort.proofs.ChildLists.{puts_nothing}
use Rattle.cp_cohort.proofs.GrownReleases.{never_released, released_by}
use Rattle.cp_cohort.proofs.releases.release_at.Goals as goal

pub returns-in_default-2 : goal.returns-in_default-2
returns-in_default-2 c =
    let never : NeverEqual c.in-Some.term.now c.guarded_test.inside.critical.now = rw c.in_default-2.is at c.in_ok-substitution.ensures.none in
    puts_nothing c.args.children.now.items
    (never_released c.args.guarded_test.now (operation_of_made c.args.made) c.args.node c.args.put.now c.args.message.now c.in-Some.term.now c.args.path.now (sym c.in-Some.ensures)
    (subst (λ (q : GuardedTest). NeverEqual c.in-Some.term.now q.critical) c.guarded_test.view_is never))

pub returns : goal.returns
returns c =
    let unifies : UnifiesMostGenerally c.in-Some.term.now c.guarded_test.inside.critical.now (as_substitution c.in-Some-2.substitution) = rw c.in-Some-2.is at c.in_ok-substitution.ensures.some in
    let tried : PartialSolution = record { skeleton = c.in_ok-skeleton.skeleton; substitution = c.in-Some-2.substitution } in
    on_ok_weaker c.put_children.result
    (λ e. record {
      added = _;
      behind = e;
      given = released_by c.args.guarded_test.now (operation_of_made c.args.made) c.args.node c.args.put.now c.args.message.now c.in-Some.term.now c.args.path.now
          (as_substitution c.in-Some-2.substitution) tried c.in_ok-settled.settled.items c.is_sound.ensures.skeleton.no_cycle (sym c.in-Some.ensures)
          (subst (λ (q : GuardedTest). UnifiesMostGenerally c.in-Some.term.now q.critical (as_substitution c.in-Some-2.substitution)) c.guarded_test.view_is unifies)
          (record { same = c.in_ok-skeleton.ensures.same; variables = c.in_ok-skeleton.ensures.variables; by = refl })
          (subst (λ (q : GuardedTest). SolvesRelease (release_at q c.args.node.strand c.args.node.index c.args.path.now) on_the_way tried c.in_ok-settled.settled.items) c.guarded_test.view_is c.in_ok-settled.ensures);
    })
    c.put_children.ensures
