use Rattle.std.proofs.Common.{◌∙◌, sym, arith}
use Rattle.cp_model.proofs.OriginTrail.{begins, runs_out, ends, goes_on}
use Rattle.cp_model.proofs.origin.origin_before.Goals as goal

pub loop-step-init : goal.loop-step-init
loop-step-init c = begins c.args.bundle.now c.args.m.now c.args.n

pub returns-in-None : goal.returns-in-None
returns-in-None c = record {
  origin = ends c.args.bundle.now c.args.m.now c.args.n c.loop-step._step c.loop-step.node c.loop-step.invariant
      c.deref.result.now c.first_on_strand-node.result c.deref.ensures.value c.first_on_strand-node.ensures
      (sym c.sender.ensures ∙ c.in-None.is);
}

pub loop-step-preserved : goal.loop-step-preserved
loop-step-preserved c =
    goes_on c.args.bundle.now c.args.m.now c.args.n c.loop-step._step c.loop-step.node c.loop-step.invariant
    c.deref.result.now c.first_on_strand-node.result c.deref.ensures.value c.first_on_strand-node.ensures
    c.in-Some.sender (sym c.sender.ensures ∙ c.in-Some.is)

pub returns : goal.returns
returns c = record {
  origin = runs_out c.args.bundle.now c.args.m.now c.args.n c.loop-step._step c.loop-step.node c.loop-step.invariant
      (omega (arith, c.args.bundle.now.order.ok.0, c.len-step-end.ensures, c.loop-step-test.false));
}
