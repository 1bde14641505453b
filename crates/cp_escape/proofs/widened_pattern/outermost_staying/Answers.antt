use Rattle.std.proofs.Common.{rules, ◌≡◌, map, List, Some, sym, ap, ◌∙◌, subst}
use Rattle.std.specs.Prelude.{Option, IfSome, IfNone}
use Rattle.cp_lists.proofs.Collected.{if_mapped}
use Rattle.cp_model.proofs.CarriedParts.{not_both}
use Rattle.cp_model.specs.Term.{Term}
use Rattle.cp_theory.specs.Above.{encryptions_above}
use Rattle.cp_escape.specs.Escape.{IsFirstWith}
use Rattle.cp_escape.specs.WidenedPattern.{StaysClosed}
use Rattle.cp_escape.proofs.StillClosed.{item_stays, item_passed, none_past}
use Rattle.cp_escape.proofs.widened_pattern.outermost_staying.Goals as goal

pub returns-then-branch-clause-some : goal.returns-then-branch-clause-some
returns-then-branch-clause-some c =
    let es : List Term = encryptions_above c.args.message.now c.args.path.now in
    let all : map (λ e. e.now) c.deref-encryption-items.result.now ≡ es =
    ap (map (λ e. e.now)) c.deref-encryption-items.ensures.value ∙ c.in_ok-encryptions.ensures ∙ ap (encryptions_above c.args.message.now) c.as_slice.ensures in
    let first : IsFirstWith (StaysClosed c.args.k.now) es c.encryption-item.result.now =
    item_stays (λ e. e.now) c.args.k.now c.deref-encryption-items.result.now c.loop-encryption.encryption-index c.encryption-item.result c.loop-encryption-test.true c.encryption-item.is c.loop-encryption.invariant es all
    (c.in_ok-stays_closed.ensures.0 c.if-branch.true) in
    if_mapped c.copy.result c.map.result (λ x answer same k.
    let is : answer ≡ Some x = search rules in
    subst (λ (o : Option Term). IfSome o (IsFirstWith (StaysClosed c.args.k.now) es)) (sym is) (subst (IsFirstWith (StaysClosed c.args.k.now) es) (sym same) first)) c.copy.ensures c.map.ensures.cases

pub returns-then-branch-clause-none : goal.returns-then-branch-clause-none
returns-then-branch-clause-none c =
    let es : List Term = encryptions_above c.args.message.now c.args.path.now in
    if_mapped c.copy.result c.map.result (λ x answer same k.
    let is : answer ≡ Some x = search rules in
    subst (λ (o : Option Term). IfNone o ((e : Term) → IsFirstWith (StaysClosed c.args.k.now) es e → ⊥)) (sym is) tt) c.copy.ensures c.map.ensures.cases

pub loop-encryption-preserved : goal.loop-encryption-preserved
loop-encryption-preserved c =
    item_passed (λ e. e.now) c.args.k.now c.deref-encryption-items.result.now c.loop-encryption.encryption-index c.encryption-item.result c.loop-encryption-test.true c.encryption-item.is c.loop-encryption.invariant
    (λ s. not_both c.if-branch.false (c.in_ok-stays_closed.ensures.1 s))

pub returns-clause-none : goal.returns-clause-none
returns-clause-none c =
    let es : List Term = encryptions_above c.args.message.now c.args.path.now in
    let all : map (λ e. e.now) c.deref-encryption-items.result.now ≡ es =
    ap (map (λ e. e.now)) c.deref-encryption-items.ensures.value ∙ c.in_ok-encryptions.ensures ∙ ap (encryptions_above c.args.message.now) c.as_slice.ensures in
    none_past (λ e. e.now) c.args.k.now c.deref-encryption-items.result.now c.loop-encryption.encryption-index c.loop-encryption-test.false c.loop-encryption.invariant es all
