use Rattle.std.proofs.Common.{◌≡◌, ◌∙◌, Some, IsNone, refl, sym, ap, subst}
use Rattle.std.specs.Prelude.{◌↔◌}
use Rattle.cp_lists.specs.Lists.{item_at}
use Rattle.cp_lists.proofs.Items.{item_of_read}
use Rattle.cp_model.specs.Derivable.{DerivableAt}
use Rattle.cp_model.specs.Skeleton.{Skeleton, term_event_at}
use Rattle.cp_model.specs.Term.{Term}
use Rattle.cp_model.specs.declared.strand.Event.TheVariants.{Receive as recv}
use Rattle.cp_theory.specs.Critical.{IsTest}
use Rattle.cp_derive.specs.AtNode.{SkeletonNode}
use Rattle.cp_derive.specs.Components.{IsFirstUnderivable}
use Rattle.cp_derive.specs.Given.{IsDerivable}
use Rattle.cp_derive.proofs.CriticalTests.{critical_is_test, first_there, event_there, realised_by, first_received}
use Rattle.cp_derive.proofs.at_test.test_at.Goals.{In-Some-Receive, In_ok-critical, In-Some-2}
use Rattle.cp_derive.proofs.at_test.test_at.Goals as goal

-- the message is received at the node
reception : (c : In-Some-Receive) → term_event_at c.args.k.now.strands c.args.node ≡ Some (recv c.in-Some-Receive.message)
reception c =
    let n = c.args.node.strand in
    let at : item_at c.args.k.now.strands n ≡ Some c.in-Some.strand.now = ap (λ ss. item_at ss n) (sym (c.strands.ensures ∙ ap (λ (k : Skeleton). k.strands) c.skeleton.ensures)) ∙ item_of_read c.strands.result.now n c.in-Some.strand.now c.in-Some.ensures.lookup.3.0 c.in-Some.ensures.lookup.1 in
    event_there c.args.k.now c.args.node c.in-Some.strand.now c.in_ok-message.field-0 at c.in_ok-message.ensures ∙ c.in-Some-Receive.is ∙ ap Some c.in-Some-Receive.field-0-is

-- what was gathered is of the node
gathered : (c : In_ok-critical) → c.in_ok-at.at ≡ record { skeleton = c.args.k.now; node = c.args.node }
gathered c = c.in_ok-at.ensures ∙ ap (λ (k : Skeleton). let n : SkeletonNode = record { skeleton = k; node = c.args.node } in n) c.lent.ensures

-- what is known there is what can be derived there
exact : (c : In_ok-critical) → (t : Term) → IsDerivable c.known.result.now t ↔ DerivableAt c.args.k.now c.args.node t
exact c = subst (λ (n : SkeletonNode). (t : Term) → IsDerivable c.known.result.now t ↔ DerivableAt n.skeleton n.node t) (gathered c) c.known.ensures

-- the critical term is the first that cannot be derived there
first : (c : In-Some-2) → ((t : Term) → IsDerivable c.known.result.now t ↔ DerivableAt c.args.k.now c.args.node t) →
    IsFirstUnderivable (DerivableAt c.args.k.now c.args.node) c.in-Some-Receive.message c.in-Some-2.critical.path c.in-Some-2.critical.term
first c known =
    let x = c.in-Some-2.critical in
    let found : IsFirstUnderivable (IsDerivable c.known.result.now) c.in-Some-Receive.message x.path x.term = rw c.in-Some-2.is at c.in_ok-critical.ensures.first in
    first_there c.args.k.now c.args.node c.known.result.now known c.in-Some-Receive.message x.path x.term found

pub returns-in_default-3-clause-none : goal.returns-in_default-3-clause-none
returns-in_default-3-clause-none c =
    let at = goal.at.returns-in_default-3-clause-none c in
    let m = c.in-Some-Receive.message in
    let none : IsNone c.in_ok-critical.field-0 = subst IsNone (sym c.in_default-3.is) refl in
    ((λ e. realised_by c.args.k.now c.args.node m (reception at.In-Some-Receive) ((exact at.In_ok-critical m).0 (c.in_ok-critical.ensures.none.0 none))), λ r. refl)

pub invariant_of-result : goal.invariant_of-result
invariant_of-result c =
    let at = goal.at.invariant_of-result c in
    let x = c.in-Some-2.critical in
    subst (λ (n : SkeletonNode). IsTest n.skeleton n.node x.term) (sym (gathered at.In_ok-critical))
    (critical_is_test c.args.k.now c.args.node c.in-Some-Receive.message x.path x.term (reception at.In-Some-Receive) (first at.In-Some-2 (exact at.In_ok-critical)))

pub returns-clause-there : goal.returns-clause-there
returns-clause-there c =
    let is = gathered (goal.at.returns-clause-there c).In_ok-critical in
    (ap (λ (n : SkeletonNode). n.skeleton) is, ap (λ (n : SkeletonNode). n.node) is)

pub returns-clause-none : goal.returns-clause-none
returns-clause-none c =
    let at = goal.at.returns-clause-none c in
    let m = c.in-Some-Receive.message in (
      (λ e. absurd (let no = e in cc)),
      λ r.
          let none : IsNone c.in_ok-critical.field-0 = c.in_ok-critical.ensures.none.1 ((exact at.In_ok-critical m).1 (r m (reception at.In-Some-Receive))) in
          let never : IsNone (Some c.in-Some-2.critical) = subst IsNone c.in-Some-2.is none in
          absurd (cc),
    )

pub returns-clause-first : goal.returns-clause-first
returns-clause-first c =
    let at = goal.at.returns-clause-first c in
    let x = c.in-Some-2.critical in
    first_received c.args.k.now c.args.node c.in-Some-Receive.message x.path x.term (reception at.In-Some-Receive) (first at.In-Some-2 (exact at.In_ok-critical))
