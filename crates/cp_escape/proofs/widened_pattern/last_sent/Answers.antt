use Rattle.cp_model.specs.declared.strand.Event.TheVariants.{Send as send, Receive as recv}
use Rattle.std.proofs.Common.{◌≡◌, ◌-◌, ℕ, length, Some, sym, ap, ◌∙◌}
use Rattle.cp_lists.specs.Lists.{item_at}
use Rattle.cp_lists.proofs.Items.{item_of_read}
use Rattle.cp_escape.proofs.LastSent.{ends_by_sending, never_sends, one_less}
use Rattle.cp_escape.proofs.widened_pattern.last_sent.Goals as goal

pub returns-in-Some-Send-clause-some : goal.returns-in-Some-Send-clause-some
returns-in-Some-Send-clause-some c =
    let n : ℕ = length c.strands-2.result.now in
    let at : item_at c.args.child.now.strands n ≡ Some c.in-Some.strand.now = ap (λ ss. item_at ss n) (sym c.strands.ensures) ∙ item_of_read c.strands.result.now n c.in-Some.strand.now c.in-Some.ensures.lookup.3.0 c.in-Some.ensures.lookup.1 in
    ends_by_sending c.args.k.now c.args.child.now n (ap length c.strands-2.ensures) c.in-Some.strand.now at c.in-Instance.instance.now c.in-Instance.ensures (c.height-height.result - 1)
    (one_less c.height-height.result c.in-Instance.instance.now.height c.height-height.ensures c.if-height-eq0.false) c.in_ok-message.field-0 c.in_ok-message.ensures c.in-Some-Send.message
    (c.in-Some-Send.is ∙ ap Some c.in-Some-Send.field-0-is)

pub returns-in-Some-Receive-clause-none : goal.returns-in-Some-Receive-clause-none
returns-in-Some-Receive-clause-none c =
    let n : ℕ = length c.strands-2.result.now in
    let at : item_at c.args.child.now.strands n ≡ Some c.in-Some.strand.now = ap (λ ss. item_at ss n) (sym c.strands.ensures) ∙ item_of_read c.strands.result.now n c.in-Some.strand.now c.in-Some.ensures.lookup.3.0 c.in-Some.ensures.lookup.1 in
    never_sends c.args.k.now c.args.child.now n (ap length c.strands-2.ensures) c.in-Some.strand.now at c.in-Instance.instance.now c.in-Instance.ensures (c.height-height.result - 1)
    (one_less c.height-height.result c.in-Instance.instance.now.height c.height-height.ensures c.if-height-eq0.false) c.in_ok-message.field-0 c.in_ok-message.ensures
    (λ t e. let f : Some (recv c.in-Some-Receive.field-0-0) ≡ Some (send t) = sym (c.in-Some-Receive.is ∙ ap Some c.in-Some-Receive.field-0-is) ∙ e in absurd (cc))

pub returns-clause-none : goal.returns-clause-none
returns-clause-none c =
    let n : ℕ = length c.strands-2.result.now in
    let at : item_at c.args.child.now.strands n ≡ Some c.in-Some.strand.now = ap (λ ss. item_at ss n) (sym c.strands.ensures) ∙ item_of_read c.strands.result.now n c.in-Some.strand.now c.in-Some.ensures.lookup.3.0 c.in-Some.ensures.lookup.1 in
    never_sends c.args.k.now c.args.child.now n (ap length c.strands-2.ensures) c.in-Some.strand.now at c.in-Instance.instance.now c.in-Instance.ensures (c.height-height.result - 1)
    (one_less c.height-height.result c.in-Instance.instance.now.height c.height-height.ensures c.if-height-eq0.false) c.in_ok-message.field-0 c.in_ok-message.ensures
    (λ t e. let f = sym c.in-None.is ∙ e in absurd (cc))
