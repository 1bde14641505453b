use Rattle.std.proofs.Common.{◌↔◌, IsTrue, Some, ap, ◌∙◌, subst, sym}
use Rattle.std.proofs.lemmas.Result.{on_ok_weaker}
use Rattle.cp_model.proofs.CarriedParts.{not_both}
use Rattle.cp_model.specs.Identity.{unchanged}
use Rattle.cp_model.specs.Strand.{payload}
use Rattle.cp_model.specs.declared.node.Node.{Node}
use Rattle.cp_model.specs.declared.tree.Operation.TheVariants.{Contracted as by_contraction}
use Rattle.cp_model.specs.Term.{Term}
use Rattle.cp_theory.specs.Inside.{IsInside}
use Rattle.cp_pattern.specs.Unifiers.{UnifiesMostGenerally, NeverEqual}
use Rattle.cp_unify.specs.Bindings.{as_substitution}
use Rattle.cp_theory.specs.Normal.{skeleton_under}
use Rattle.cp_collapse.specs.SameSkeletons.{SaysTheSame}
use Rattle.cp_cohort.specs.Children.{AreChildrenOfForms}
use Rattle.cp_cohort.specs.Views.{PutsChildren}
use Rattle.cp_cohort.specs.Cohort.{is_inside, is_critical, never_equal, GuardedTest}
use Rattle.cp_cohort.proofs.ChildLists.{puts_nothing, puts_other}
use Rattle.cp_cohort.proofs.ContractedChildren.{contracted_by, read_at}
use Rattle.cp_cohort.proofs.guarded_test.GuardedTest.contract_at.Goals as goal

pub returns-then-branch : goal.returns-then-branch
returns-then-branch c =
    let inside : IsTrue c.in_ok-is_guarded.field-0 ↔ IsInside c.args.self.now.patterns unchanged (payload c.args.occurrence.now.event) c.args.path.now =
    subst (λ (t : Term). IsTrue c.in_ok-is_guarded.field-0 ↔ IsInside c.args.self.now.patterns unchanged t c.args.path.now) (c.payload-message.ensures ∙ ap payload c.event.ensures) c.in_ok-is_guarded.ensures in
    puts_nothing c.args.children.now.items (is_inside (inside.0 c.if-branch.true))

pub returns-then-same : goal.returns-then-same
returns-then-same c =
    puts_nothing c.args.children.now.items
    (is_critical (read_at c.payload-message.result.now _ _ c.args.path.now c.in-Some.ensures (c.payload-message.ensures ∙ ap payload c.event.ensures) ∙ ap Some (c.same.ensures.0 c.if-same.true) ∙ ap (λ (q : GuardedTest). Some q.critical) c.self.view_is))

pub returns-in_default-2 : goal.returns-in_default-2
returns-in_default-2 c =
    let never : NeverEqual c.in-Some.term.now c.self.inside.critical.now = rw c.in_default-2.is at c.in_ok-s.ensures.none in
    puts_nothing c.args.children.now.items
    (never_equal (read_at c.payload-message.result.now _ _ c.args.path.now c.in-Some.ensures (c.payload-message.ensures ∙ ap payload c.event.ensures)) (subst (λ (q : GuardedTest). NeverEqual c.in-Some.term.now q.critical) c.self.view_is never))

pub returns : goal.returns
returns c =
    let o = c.args.occurrence.now in
    let term = c.in-Some.term.now in
    let s = as_substitution c.in-Some-2.s in
    let skeleton = c.in_ok-skeleton.skeleton in
    let is = c.self.view_is in
    let inside : IsTrue c.in_ok-is_guarded.field-0 ↔ IsInside c.args.self.now.patterns unchanged (payload o.event) c.args.path.now =
    subst (λ (t : Term). IsTrue c.in_ok-is_guarded.field-0 ↔ IsInside c.args.self.now.patterns unchanged t c.args.path.now) (c.payload-message.ensures ∙ ap payload c.event.ensures) c.in_ok-is_guarded.ensures in
    let unifies : UnifiesMostGenerally term c.self.inside.critical.now s = rw c.in-Some-2.is at c.in_ok-s.ensures.some in
    on_ok_weaker c.put_forms.result
    (λ p. puts_other c.args.children.now.items c.put_forms.new.children.items
    (contracted_by c.args.self.now o c.args.path.now term s skeleton (λ i. not_both c.if-branch.false (inside.1 i))
    (read_at c.payload-message.result.now _ _ c.args.path.now c.in-Some.ensures (c.payload-message.ensures ∙ ap payload c.event.ensures))
    (λ e. not_both c.if-same.false (c.same.ensures.1 (e ∙ ap (λ (q : GuardedTest). q.critical) (sym is))))
    (subst (λ (q : GuardedTest). UnifiesMostGenerally term q.critical s) is unifies)
    (subst (λ (q : GuardedTest). SaysTheSame (skeleton_under s q.skeleton) skeleton) is c.in_ok-skeleton.ensures.same)
    (c.in_ok-skeleton.ensures.variables ∙ ap (λ (q : GuardedTest). q.skeleton.variables) is))
    (subst (λ (n : Node). PutsChildren (AreChildrenOfForms (by_contraction n) c.args.path.now skeleton) c.args.children.now.items c.put_forms.new.children.items) c.node.ensures p))
    c.put_forms.ensures
