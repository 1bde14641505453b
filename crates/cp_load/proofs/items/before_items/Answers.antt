use Rattle.std.proofs.Common.{refl, sym, ◌∙◌}
use Rattle.cp_language.specs.Roles.{headed, item_or_none}
use Rattle.cp_language.specs.Problems.{is_assumption_or_order, before_items}
use Rattle.cp_load.proofs.BeforeItems.{before-taken}
use Rattle.cp_load.proofs.items.before_items.Goals as goal

pub loop-number-preserved : goal.loop-number-preserved
loop-number-preserved c =
    before-taken (λ f. is_assumption_or_order (item_or_none (headed f))) before_items (λ f gs. refl) c.args.body.now c.loop-number.number c.index-body-number.result c.loop-number-test.true c.index-body-number.is _
    (sym c.if-is_assumption_or_order.false ∙ c.is_assumption_or_order.ensures) c.loop-number.invariant
