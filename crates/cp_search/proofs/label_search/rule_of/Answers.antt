use Rattle.std.proofs.Common.{sym, ap, length, ◌∙◌}
use Rattle.cp_lists.proofs.Appended.{none_counted, some_counted}
use Rattle.cp_search.proofs.ResolvedLeaves.{none_found}
use Rattle.cp_search.proofs.RuleKept.{if_dead, if_seen, if_realised, if_over, if_out, if_tested}
use Rattle.cp_search.proofs.label_search.rule_of.Goals as goal

pub returns-then-label : goal.returns-then-label
returns-then-label c = if_dead c.args.label.now.dead _ _ _ _ c.if-label.true

pub returns-in-Some : goal.returns-in-Some
returns-in-Some c = if_seen c.args.label.now.dead c.args.label.now.seen_in _ _ _ _ c.if-label.false c.in-Some.is

pub returns-then-is_empty : goal.returns-then-is_empty
returns-then-is_empty c =
    if_realised c.args.label.now.dead c.args.label.now.seen_in c.args.label.now.unrealised _ _ c.if-label.false (none_found _ c.in_default.not-Some)
    (none_counted c.args.label.now.unrealised _ (ap length c.as_slice.ensures) (sym c.is_empty.ensures ∙ c.if-is_empty.true))

pub returns-then-strands-limits : goal.returns-then-strands-limits
returns-then-strands-limits c =
    if_over c.args.limits c.args.expanded c.args.label.now c.if-label.false (none_found _ c.in_default.not-Some)
    (some_counted c.args.label.now.unrealised _ (ap length c.as_slice.ensures) (sym c.is_empty.ensures ∙ c.if-is_empty.false)) (length c.strands.result.now) (ap length c.strands.ensures) c.if-strands-limits.true

pub returns-then-expanded-limits : goal.returns-then-expanded-limits
returns-then-expanded-limits c =
    if_out c.args.limits c.args.expanded c.args.label.now c.if-label.false (none_found _ c.in_default.not-Some)
    (some_counted c.args.label.now.unrealised _ (ap length c.as_slice.ensures) (sym c.is_empty.ensures ∙ c.if-is_empty.false)) (length c.strands.result.now) (ap length c.strands.ensures) c.if-strands-limits.false c.if-expanded-limits.true

pub returns : goal.returns
returns c =
    if_tested c.args.limits c.args.expanded c.args.label.now c.if-label.false (none_found _ c.in_default.not-Some)
    (some_counted c.args.label.now.unrealised _ (ap length c.as_slice.ensures) (sym c.is_empty.ensures ∙ c.if-is_empty.false)) (length c.strands.result.now) (ap length c.strands.ensures) c.if-strands-limits.false c.if-expanded-limits.false
