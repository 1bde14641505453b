use Rattle.std.proofs.Common.{add-one, ◌≡◌, length, ap, arith, ◌∙◌, subst}
use Rattle.std.proofs.lemmas.Result.{IfOk-weaker}
use Rattle.cp_model.specs.Term.{Term}
use Rattle.cp_cohort.specs.Cohort.{GuardedTest}
use Rattle.cp_cohort.specs.Children.{NeverSends}
use Rattle.cp_cohort.proofs.NothingAdded.{nothing_added}
use Rattle.cp_cohort.proofs.UntilGiven.{until_nothing, until_other}
use Rattle.cp_cohort.proofs.GrownReleases.{added_pair_at, added_at, first_added_at}
use Rattle.cp_cohort.proofs.added.add_event.Goals.{In_ok-grown}
use Rattle.cp_cohort.proofs.added.add_event.Goals as goal

-- the new strand's number
number : (g : _) (c : In_ok-grown g) → length c.strands-strand.result.now ≡ length c.args.guarded_test.now.skeleton.strands
number g c = ap length (c.strands-strand.ensures ∙ ap (λ (q : GuardedTest). q.skeleton.strands) c.guarded_test.view_is)

pub returns-then-not-may_send : goal.returns-then-not-may_send
returns-then-not-may_send g c =
    let critical = ap (λ (q : GuardedTest). q.critical) c.guarded_test.view_is in
    until_nothing (g.S.GivesPatterns.gives c.args.source.now) c.args.children.now.items
    (nothing_added c.args.guarded_test.now c.args.role.now.value c.args.index (subst (λ (u : Term). NeverSends u c.args.role.now.value.trace c.args.index) critical (c.may_send.ensures.never c.if-not-may_send.true)))

pub with_strand-requires : goal.with_strand-requires
with_strand-requires g c = record { height = (omega arith, omega (arith, c.requires.reached)) }

pub release-requires : goal.release-requires
release-requires g c =
    let sent = c.may_send.ensures.sent c.if-not-may_send.false in
    added_pair_at c.args.guarded_test.now c.args.role.now.value c.args.index sent.0 sent.1 c.in_ok-grown.grown (c.in_ok-grown.ensures c.args.index (add-one c.args.index)).adds
    (length c.strands-strand.result.now) (number g (goal.at.release-requires g c).In_ok-grown) c.is_test.ensures

pub returns : goal.returns
returns g c =
    let q = c.args.guarded_test.now in
    let role = c.args.role.now.value in
    let sent = c.may_send.ensures.sent c.if-not-may_send.false in
    let grown = c.in_ok-grown.ensures c.args.index (add-one c.args.index) in
    let is = number g (goal.at.returns g c).In_ok-grown in
    IfOk-weaker c.release.result _ _
    (λ found p. until_other (g.S.GivesPatterns.gives c.args.source.now) c.args.children.now.items c.release.new.children.items found
    (added_at q role c.args.index sent.0 sent.1 c.in_ok-grown.grown grown.adds (length c.strands-strand.result.now) is grown.variables)
    (first_added_at q role c.args.index sent.0 sent.1 c.in_ok-grown.grown grown.adds (length c.strands-strand.result.now) is grown.variables) p)
    c.release.ensures
