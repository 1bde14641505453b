use Rattle.std.proofs.Common.{◌≡◌, Some, refl, sym, ap, ◌∙◌}
use Rattle.cp_lists.specs.Lists.{item_at}
use Rattle.cp_model.specs.Homomorphism.{substitution_by}
use Rattle.cp_model.specs.declared.strand.Event.TheVariants.{Send as send, Receive as recv}
use Rattle.cp_model.proofs.CarriedParts.{not_both}
use Rattle.cp_strand.proofs.Origins.{not_received, originates_carried, originates_first}
use Rattle.cp_strand.proofs.term_origins.originates_under.Goals as goal

pub returns-then-carries_under : goal.returns-then-carries_under
returns-then-carries_under c =
    let s = substitution_by c.args.values.now in
    let es = c.args.events.now in
    let sent : Some (send c.in-Send.message) ≡ item_at es c.args.index = sym (ap Some c.in-Send.is) ∙ c.in-Some.ensures in
    originates_first s es c.args.t.now _ c.args.index c.is_carried_by_one.result sent (c.carries_under.ensures.0 c.if-carries_under.true)
    c.is_carried_by_one.ensures.0 c.is_carried_by_one.ensures.1

pub returns-else-carries_under : goal.returns-else-carries_under
returns-else-carries_under c =
    let s = substitution_by c.args.values.now in
    let es = c.args.events.now in
    let sent : Some (send c.in-Send.message) ≡ item_at es c.args.index = sym (ap Some c.in-Send.is) ∙ c.in-Some.ensures in (
      λ r. absurd (not_both c.if-carries_under.false r),
      λ o. c.carries_under.ensures.1 (originates_carried s es c.args.t.now _ c.args.index sent o),
    )

pub returns-in-Receive : goal.returns-in-Receive
returns-in-Receive c =
    let s = substitution_by c.args.values.now in
    let es = c.args.events.now in
    let heard : Some (recv c.in-Receive.field-0) ≡ item_at es c.args.index = sym (ap Some c.in-Receive.is) ∙ c.in-Some.ensures in
    (λ r. absurd (not_both refl r), λ o. absurd (not_received s es c.args.t.now _ c.args.index heard o))
