use Rattle.cp_model.proofs.OriginTrail.{Trail, WhereCarried}
use Rattle.cp_model.proofs.origin.origin_before.Given as goal

-- the node carries the message, and stands so early that the steps that are left are enough
abbrev pub invariant-loop-step : goal.invariant-loop-step
invariant-loop-step l = WhereCarried l.bundle l.m l.fn.n (λ p. Trail p l.m l.fn.n l._step l.node)
