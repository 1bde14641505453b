use Rattle.std.proofs.Common.{◌≡◌, [], sym, ◌∙◌}
use Rattle.cp_lists.proofs.Appended.{none_counted}
use Rattle.cp_derive.proofs.OpenedPieces.{opened_more, no_more_sent}
use Rattle.cp_derive.proofs.knowledge.Known.extended.Goals as goal

pub invariant_of-result : goal.invariant_of-result
invariant_of-result c =
    opened_more c.self.inside.sent.items c.args.more.items _ _ _ _ _ _ c.deref.ensures.value c.deref-2.ensures.value
    c.in_ok-append.ensures.items c.in_ok-open_more.ensures c.self.invariant

pub returns-then-is_empty : goal.returns-then-is_empty
returns-then-is_empty c =
    let none : c.args.more.items ≡ [] = none_counted c.args.more.items _ c.args.more.ok.0 (sym c.is_empty.ensures ∙ c.if-is_empty.true) in
    no_more_sent c.args.self c.args.more.items none
