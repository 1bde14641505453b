use Rattle.cp_expansion.proofs.GrownTables.{one_more}
use Rattle.cp_expansion.proofs.variable_tables.with_variables.Goals as goal

pub loop-number-preserved : goal.loop-number-preserved
loop-number-preserved c =
    one_more c.args.k.now c.args.variables.now c.loop-number.number c.loop-number.grown c.declare.new.self c.numbered-next.result c.root.result.now c.sort.result c.loop-number.invariant c.numbered-next.ensures c.root.ensures c.sort.ensures c.in_ok-declare.ensures.declared
