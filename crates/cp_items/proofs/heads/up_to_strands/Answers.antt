use Rattle.std.proofs.Common.{refl, sym, ◌∙◌}
use Rattle.cp_report.specs.Heads.{has_head, heads_behind_strands, up_to_strands}
use Rattle.cp_load.proofs.BeforeItems.{before-taken}
use Rattle.cp_items.proofs.heads.up_to_strands.Goals as goal

pub loop-place-preserved : goal.loop-place-preserved
loop-place-preserved c =
    before-taken (has_head heads_behind_strands) up_to_strands (λ f gs. refl) c.args.items.now c.loop-place.place c.index-items-place.result c.loop-place-test.true c.index-items-place.is _ (sym c.if-has_one_of.false ∙ c.has_one_of.ensures) c.loop-place.invariant
