use Rattle.cp_readback.specs.Kinds.{kind_misfits}
use Rattle.cp_readback.proofs.InKinds.{kind-taken, kind-missing, kinds-done}
use Rattle.cp_readback.proofs.status.kinds_misfits.Goals as goal

pub loop-kind-preserved : goal.loop-kind-preserved
loop-kind-preserved c =
    kind-taken kind_misfits c.args.kinds.now c.loop-kind.kind-index c.args.place c.loop-kind.rest.now c.loop-kind.first _ c.loop-kind.invariant
    _ c.loop-kind-test.true c.in-Some.behind.now c.in-Some.item.now c.in-Some.ensures.cases.0 c.kind_misfits.new.first c.kind_misfits.ensures

pub returns-in_default : goal.returns-in_default
returns-in_default c =
    kind-missing kind_misfits c.args.kinds.now c.loop-kind.kind-index c.args.place c.loop-kind.rest.now c.loop-kind.first _ c.loop-kind.invariant
    c.loop-kind-test.true c.in_default.ensures.cases c.note.new.self c.note.ensures

pub returns : goal.returns
returns c =
    kinds-done kind_misfits c.args.kinds.now c.loop-kind.kind-index c.args.place c.loop-kind.rest.now c.loop-kind.first _ c.loop-kind.invariant
    c.loop-kind-test.false c.no_more.new.first (c.no_more.ensures c.args.place)
