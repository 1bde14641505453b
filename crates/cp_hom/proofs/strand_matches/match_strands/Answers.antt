use Rattle.std.proofs.Common.{◌≤◌, ◌∙◌, subst}
use Rattle.std.proofs.lemmas.Result.{IfOk-weaker}
use Rattle.cp_hom.specs.PartialMaps.{partial_view}
use Rattle.cp_hom.proofs.PartValues.{part_by_values}
use Rattle.cp_hom.proofs.strand_matches.match_strands.Goals as goal

pub returns-else-not-is_same_role : goal.returns-else-not-is_same_role
returns-else-not-is_same_role c =
    IfOk-weaker c.match_values.result _ _
    (part_by_values c.in-Instance-Instance.first.now c.in-Instance-Instance.second.now c.args.from.now c.args.to.now c.in-Instance-Instance.ensures c.in-Instance-Instance.ensures'
    _ _ _ _ (c.deref-role.ensures ∙ c.role.ensures) c.height-height.ensures c.values.ensures c.values-in-Instance-Instance.ensures
    (c.is_same_role.ensures.0 c.if-not-is_same_role.false ∙ c.deref.ensures ∙ c.role-else-height.ensures)
    (subst (λ n. c.height-height.result ≤ n) c.height.ensures c.if-height.false) (partial_view c.args.given))
    c.match_values.ensures
