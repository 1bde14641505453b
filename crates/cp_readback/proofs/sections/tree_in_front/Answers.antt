use Rattle.std.proofs.Common.{ℕ, ◌≤◌, length, map, take, sym, ap, ◌∙◌, subst}
use Rattle.cp_sexpr.specs.View.{view}
use Rattle.cp_report.specs.Heads.{is_of_tree}
use Rattle.cp_readback.proofs.InFront.{leads-within}
use Rattle.cp_readback.proofs.Sectioned.{tree-in-front}
use Rattle.cp_readback.proofs.sections.tree_in_front.Goals as goal

pub returns : goal.returns
returns c =
    ap (map view) c.split_at.ensures.front ∙ ap (λ n. map view (take n c.args.forms.now)) c.count_in_front.ensures ∙ tree-in-front c.args.forms.now

pub split_at-requires : goal.split_at-requires
split_at-requires c = subst (λ (n : ℕ). n ≤ length c.args.forms.now) (sym c.count_in_front.ensures) (leads-within is_of_tree c.args.forms.now)
