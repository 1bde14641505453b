use Rattle.std.proofs.Common.{◌≡◌, map, List, sym, ap, ◌∙◌, subst}
use Rattle.std.proofs.lemmas.Result.{IfOk-weaker}
use Rattle.cp_model.specs.Term.{Term}
use Rattle.cp_theory.specs.Above.{encryptions_above}
use Rattle.cp_escape.specs.ClosedEncryptions.{TellsClosed, IsClosedTo}
use Rattle.cp_escape.specs.Escape.{IsFirstWith}
use Rattle.cp_escape.proofs.FirstClosed.{item_closed, item_open, never_past}
use Rattle.cp_escape.proofs.closed_encryptions.outermost_closed.Goals as goal

pub returns-then-branch : goal.returns-then-branch
returns-then-branch c =
    let es : List Term = encryptions_above c.args.message.now c.args.path.now in
    let all : map (λ e. e.now) c.deref-encryption-items.result.now ≡ es =
    ap (map (λ e. e.now)) c.deref-encryption-items.ensures.value ∙ c.in_ok-encryptions.ensures ∙ ap (encryptions_above c.args.message.now) c.as_slice.ensures in
    let first : IsFirstWith (IsClosedTo c.args.known.now) es c.encryption-item.result.now =
    item_closed (λ e. e.now) c.args.known.now c.deref-encryption-items.result.now c.loop-encryption.encryption-index c.encryption-item.result c.loop-encryption-test.true c.encryption-item.is c.loop-encryption.invariant es all
    (subst (TellsClosed c.args.known.now c.encryption-item.result.now) c.if-branch.true c.in_ok-is_closed.ensures) in
    IfOk-weaker c.copy.result _ _ (λ t same. subst (IsFirstWith (IsClosedTo c.args.known.now) es) (sym same) first) c.copy.ensures

pub loop-encryption-preserved : goal.loop-encryption-preserved
loop-encryption-preserved c =
    item_open (λ e. e.now) c.args.known.now c.deref-encryption-items.result.now c.loop-encryption.encryption-index c.encryption-item.result c.loop-encryption-test.true c.encryption-item.is c.loop-encryption.invariant
    (subst (TellsClosed c.args.known.now c.encryption-item.result.now) c.if-branch.false c.in_ok-is_closed.ensures)

pub unreachable-requires : goal.unreachable-requires
unreachable-requires c =
    let es : List Term = encryptions_above c.args.message.now c.args.path.now in
    let all : map (λ e. e.now) c.deref-encryption-items.result.now ≡ es =
    ap (map (λ e. e.now)) c.deref-encryption-items.ensures.value ∙ c.in_ok-encryptions.ensures ∙ ap (encryptions_above c.args.message.now) c.as_slice.ensures in
    never_past (λ e. e.now) c.args.known.now c.deref-encryption-items.result.now c.loop-encryption.encryption-index c.loop-encryption-test.false c.loop-encryption.invariant c.args.message.now c.args.path.now all c.requires
