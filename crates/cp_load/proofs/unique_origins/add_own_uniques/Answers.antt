use Rattle.cp_load.proofs.UniqueOrigins.{own-taken}
use Rattle.cp_load.proofs.unique_origins.add_own_uniques.Goals as goal

pub loop-value-preserved : goal.loop-value-preserved
loop-value-preserved c =
    own-taken c.args.strands.now c.args.values.now c.loop-value.value-index c.loop-value.uniques.items c.add_origins.new.uniques.items _
    c.value-item.result c.loop-value-test.true c.value-item.is c.in_ok-add_origins.ensures c.loop-value.invariant
