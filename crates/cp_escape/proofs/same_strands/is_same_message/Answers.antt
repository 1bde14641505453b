use Rattle.std.proofs.Common.{rules, ◌≡◌, ◌↔◌, IsTrue, sym, ◌∙◌}
use Rattle.cp_lists.proofs.Collected.{if_mapped}
use Rattle.cp_escape.proofs.same_strands.is_same_message.Goals as goal

pub returns : goal.returns
returns c =
    let first = c.in_ok-first.ensures in
    if_mapped c.applied-2.result c.map.result (λ second answer made k.
    let told : IsTrue answer ↔ (c.in_ok-first.first ≡ second) = search rules in
    (λ b. sym first ∙ told.0 b ∙ made, λ e. told.1 (first ∙ e ∙ sym made))) c.applied-2.ensures c.map.ensures.cases
