use Rattle.std.proofs.Common.{◌≡◌, refl, sym, subst}
use Rattle.cp_model.specs.Realisation.{OriginatesAtTerm}
use Rattle.cp_model.specs.declared.node.Node.{Node}
use Rattle.cp_model.proofs.CarriedParts.{not_both}
use Rattle.cp_skel.specs.Events.{LocatedEvent}
use Rattle.cp_collapse.proofs.ItemsWithProperty.{item_passed, none}
use Rattle.cp_normal.proofs.Found.{there_if_originates}
use Rattle.cp_normal.proofs.MisplacedOriginations.{event_listed}
use Rattle.cp_normal.proofs.origins.originates.Goals as goal

pub originates_at-requires : goal.originates_at-requires
originates_at-requires c =
    record {
      is_there = event_listed c.args.k.now c.events-occurrences.result.now c.events-occurrences.ensures c.loop-occurrence.occurrence-index c.occurrence-item.result c.loop-occurrence-test.true c.occurrence-item.is;
    }

pub returns-then-is_at : goal.returns-then-is_at
returns-then-is_at c =
    let at = c.is_at.ensures.0 c.if-is_at.true in
    let originates = λ (n : Node). OriginatesAtTerm c.args.k.now c.args.value.now n in
    (λ r. subst originates at (c.originates_at.ensures.0 r), λ or. c.originates_at.ensures.1 (subst originates (sym at) or))

pub loop-occurrence-preserved : goal.loop-occurrence-preserved
loop-occurrence-preserved c = item_passed (λ (o : LocatedEvent). o.node ≡ c.args.origin) _ _ _ c.loop-occurrence-test.true c.occurrence-item.is c.is_at.ensures c.if-is_at.false c.loop-occurrence.invariant

pub returns : goal.returns
returns c = (
  λ r. absurd (not_both refl r),
  λ or. absurd (none (λ (o : LocatedEvent). o.node ≡ c.args.origin) _ _ c.loop-occurrence-test.false (c.loop-occurrence.invariant (there_if_originates c.args.k.now _ _ c.events-occurrences.ensures refl c.args.value.now c.args.origin or))),
)
