use Rattle.std.proofs.Common.{refl, ◌∙◌}
use Rattle.cp_model.specs.declared.variable.Variable.{Variable}
use Rattle.cp_strand.specs.View.{instance_view}
use Rattle.cp_hom.specs.PartialMaps.{partial_view}
use Rattle.cp_hom.proofs.PartValues.{value_apart}
use Rattle.cp_hom.proofs.known.are_values_apart.Goals as goal

pub returns-then-is_value_apart : goal.returns-then-is_value_apart
returns-then-is_value_apart c =
    let x : Variable = record { sort = c.declaration-item.result.sort; number = c.numbered-id.result } in
    λ _.
    value_apart c.args.from.now c.args.to.now (instance_view c.args.from.now) (instance_view c.args.to.now) refl refl _ _ _ _
    (c.deref-role.ensures ∙ c.role.ensures) c.height-height.ensures c.values-values.ensures c.values-others.ensures x c.occurs_before.result c.occurs_before.ensures
    c.if-not-occurs_before.false (partial_view c.args.given.now) (c.is_value_apart.ensures c.if-is_value_apart.true)
