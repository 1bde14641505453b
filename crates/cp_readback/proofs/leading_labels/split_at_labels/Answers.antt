use Rattle.std.proofs.Common.{ℕ, ◌≤◌, length, map, take, drop, sym, ap, ◌∙◌, subst}
use Rattle.cp_sexpr.specs.View.{view}
use Rattle.cp_report.specs.Heads.{is_label}
use Rattle.cp_readback.proofs.InFront.{leads-within, labels-in-front, behind-labels}
use Rattle.cp_readback.proofs.leading_labels.split_at_labels.Goals as goal

pub returns-clause-labels : goal.returns-clause-labels
returns-clause-labels c =
    ap (map view) c.split_at.ensures.front ∙ ap (λ n. map view (take n c.args.forms.now)) c.count_in_front.ensures ∙ labels-in-front c.args.forms.now

pub returns-clause-behind : goal.returns-clause-behind
returns-clause-behind c =
    ap (map view) c.split_at.ensures.back ∙ ap (λ n. map view (drop n c.args.forms.now)) c.count_in_front.ensures ∙ behind-labels c.args.forms.now

pub split_at-requires : goal.split_at-requires
split_at-requires c = subst (λ (n : ℕ). n ≤ length c.args.forms.now) (sym c.count_in_front.ensures) (leads-within is_label c.args.forms.now)
