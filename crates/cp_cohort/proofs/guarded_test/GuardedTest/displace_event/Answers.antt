use Rattle.std.proofs.Common.{add-one, ◌≡◌, ◌<◌, length, Some, sym, subst, arith}
use Rattle.cp_lists.proofs.Collected.{if_mapped}
use Rattle.cp_lists.specs.Lists.{item_at}
use Rattle.cp_model.proofs.CarriedParts.{not_both}
use Rattle.cp_model.specs.Bindings.{bindings_of}
use Rattle.cp_model.specs.Strand.{Role}
use Rattle.cp_model.specs.declared.strand.Event.TheVariants.{Send as send, Receive as recv}
use Rattle.cp_model.specs.Term.{Term}
use Rattle.std.specs.Prelude.{◌↔◌, Bool, IsTrue}
use Rattle.cp_model.specs.declared.node.Node.{Node}
use Rattle.cp_model.specs.Skeleton.{Before}
use Rattle.cp_derive.specs.AtNode.{SkeletonNode}
use Rattle.cp_cohort.specs.Cohort.{is_reception, is_before, GuardedTest}
use Rattle.cp_cohort.proofs.ChildLists.{puts_nothing, puts_other}
use Rattle.cp_cohort.proofs.GrownReleases.{grown_pair, displaced_each, has_event, displaced_after}
use Rattle.cp_cohort.proofs.UntilGiven.{until_none}
use Rattle.cp_cohort.proofs.guarded_test.GuardedTest.displace_event.Goals as goal

pub is_sent-requires : goal.is_sent-requires
is_sent-requires c = subst (λ (r : Role). c.args.index < length r.trace) (sym c.role.ensures) c.requires.reached

pub returns-then-not-is_sent : goal.returns-then-not-is_sent
returns-then-not-is_sent c =
    let heard = subst (λ (r : Role). (t : Term) × (item_at r.trace c.args.index ≡ Some (recv t))) c.role.ensures (c.is_sent.ensures.received c.if-not-is_sent.true) in
    puts_nothing c.args.children.now.items (is_reception heard.1)

-- What the answer is of the test, whose node has the tables.
told : (q z : GuardedTest) (at : SkeletonNode) (n : Node) (b : Bool) → at ≡ record { skeleton = q.skeleton; node = q.node } → q ≡ z → IsTrue b ↔ Before at.skeleton n at.node → IsTrue b ↔ Before z.skeleton n z.node
told q z at n b e f h = subst (λ (x : GuardedTest). IsTrue b ↔ Before x.skeleton n x.node) f (subst (λ (x : SkeletonNode). IsTrue b ↔ Before x.skeleton n x.node) e h)

pub returns-then-has_before : goal.returns-then-has_before
returns-then-has_before c =
    let exact = told _ c.args.self.now c.self.inside.at.now (record { strand = c.args.strand; index = c.args.index }) c.has_before.result c.self.invariant.0 c.self.view_is c.has_before.ensures in
    puts_nothing c.args.children.now.items (is_before (exact.0 c.if-has_before.true))

pub has_after-requires : goal.has_after-requires
has_after-requires c =
    let sent = subst (λ (r : Role). (t : Term) × (item_at r.trace c.args.index ≡ Some (send t))) c.role.ensures (c.is_sent.ensures.sent c.if-not-is_sent.false) in
    has_event c.args.self.now c.args.strand c.args.instance.now.role c.args.instance.now.height c.args.index (bindings_of c.args.instance.now.values) sent.0 c.requires.there sent.1

pub returns-then-has_after : goal.returns-then-has_after
returns-then-has_after c =
    let sent = subst (λ (r : Role). (t : Term) × (item_at r.trace c.args.index ≡ Some (send t))) c.role.ensures (c.is_sent.ensures.sent c.if-not-is_sent.false) in
    let exact = told _ c.args.self.now c.self.inside.at.now (record { strand = c.args.strand; index = c.args.index }) c.has_before.result c.self.invariant.0 c.self.view_is c.has_before.ensures in
    puts_nothing c.args.children.now.items
    (displaced_after c.args.self.now c.args.strand c.args.instance.now.role c.args.instance.now.height c.args.index (bindings_of c.args.instance.now.values) sent.0 c.requires.there sent.1
    (λ b. not_both c.if-has_before.false (exact.1 b)) (c.has_after.ensures c.if-has_after.true))

pub with_events-requires : goal.with_events-requires
with_events-requires c = record { there = c.requires.there; reached = omega (arith, c.requires.reached) }

pub release-requires : goal.release-requires
release-requires c =
    let sent = subst (λ (r : Role). (t : Term) × (item_at r.trace c.args.index ≡ Some (send t))) c.role.ensures (c.is_sent.ensures.sent c.if-not-is_sent.false) in
    grown_pair c.args.self.now c.args.strand c.args.instance.now.role c.args.instance.now.height c.args.index (bindings_of c.args.instance.now.values) sent.0 c.requires.there sent.1
    c.in_ok-grown.grown (c.in_ok-grown.ensures c.args.index (add-one c.args.index)).grows c.requires.other c.is_test.ensures

pub returns : goal.returns
returns c =
    let sent = subst (λ (r : Role). (t : Term) × (item_at r.trace c.args.index ≡ Some (send t))) c.role.ensures (c.is_sent.ensures.sent c.if-not-is_sent.false) in
    let exact = told _ c.args.self.now c.self.inside.at.now (record { strand = c.args.strand; index = c.args.index }) c.has_before.result c.self.invariant.0 c.self.view_is c.has_before.ensures in
    if_mapped c.release.result c.map.result
    (λ found u p k. puts_other c.args.children.now.items c.release.new.children.items
    (displaced_each c.args.self.now c.args.strand c.args.instance.now.role c.args.instance.now.height c.args.index (bindings_of c.args.instance.now.values) sent.0 c.requires.there sent.1
    c.in_ok-grown.grown (c.in_ok-grown.ensures c.args.index (add-one c.args.index)).grows (λ b. not_both c.if-has_before.false (exact.1 b))) (until_none _ _ found p))
    c.release.ensures c.map.ensures.cases
