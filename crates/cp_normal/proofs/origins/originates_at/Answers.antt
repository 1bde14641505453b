use Rattle.std.proofs.Common.{refl, sym, subst, ◌∙◌}
use Rattle.cp_model.specs.Derivable.{IsOnInstance}
use Rattle.cp_model.specs.Realisation.{OriginatesAtTerm}
use Rattle.cp_model.specs.Skeleton.{UniqueAt}
use Rattle.cp_model.specs.declared.node.Node.{Node}
use Rattle.cp_model.proofs.CarriedParts.{not_both}
use Rattle.cp_skel.specs.Events.{LocatedEvent}
use Rattle.cp_skel.proofs.EventLists.{listed_role}
use Rattle.cp_lists.specs.Lists.{IsIn}
use Rattle.cp_collapse.proofs.ItemsWithProperty.{is_not, not_is}
use Rattle.cp_collapse.specs.Property.{Has}
use Rattle.cp_normal.specs.Events.{IsSentAtOrigin}
use Rattle.cp_normal.proofs.Found.{by_role_if_on, sent_if_there, originates_if_found, not_before_if_originates}
use Rattle.cp_normal.proofs.origins.originates_at.Goals as goal

pub returns-then-not-is_by_role : goal.returns-then-not-is_by_role
returns-then-not-is_by_role c = (λ r. absurd (not_both refl r), λ or. absurd (not_both (sym c.is_by_role.ensures ∙ c.if-not-is_by_role.true) (by_role_if_on c.args.k.now c.args.occurrence.now c.requires.is_there or.0)))

pub returns-then-not-is_sent_at_origin : goal.returns-then-not-is_sent_at_origin
returns-then-not-is_sent_at_origin c = (
  λ r. absurd (not_both refl r),
  λ or. absurd (not_both c.if-not-is_sent_at_origin.true (c.is_sent_at_origin.ensures.1 (sent_if_there c.args.k.now c.args.occurrence.now c.args.value.now c.node-node.result c.requires.is_there c.node-node.ensures or))),
)

pub returns : goal.returns
returns c =
    let k = c.args.k.now in
    let o : LocatedEvent = c.args.occurrence.now in
    let n : Node = c.node-node.result in
    let u : UniqueAt = record { value = c.args.value.now; origin = n } in
    let on = subst (λ (n : Node). IsOnInstance k n) (sym c.node-node.ensures) (listed_role k o c.requires.is_there (sym c.is_by_role.ensures ∙ c.if-not-is_by_role.false)) in
    let sent : Has (IsSentAtOrigin u) c.events.result.now = (o, subst (IsIn o) (sym c.events.ensures) c.requires.is_there, c.is_sent_at_origin.ensures.0 c.if-not-is_sent_at_origin.false) in (
      λ r. subst (λ (n : Node). OriginatesAtTerm k c.args.value.now n) c.node-node.ensures (originates_if_found k _ _ c.events.ensures refl u on sent (λ h. is_not r (c.some_is_carried_before.ensures.1 h))),
      λ or. not_is (λ t. not_before_if_originates k _ _ c.events.ensures refl u (subst (λ (n : Node). OriginatesAtTerm k c.args.value.now n) (sym c.node-node.ensures) or) (c.some_is_carried_before.ensures.0 t)),
    )
