use Rattle.cp_pattern.specs.Sent.{IsGuardedAt}
use Rattle.cp_pattern.proofs.Each.{EachIfRest}
use Rattle.cp_pattern.proofs.sent.send_inside_alone.Given as goal

abbrev pub invariant-loop-occurrence : goal.invariant-loop-occurrence
invariant-loop-occurrence l = EachIfRest (λ o. IsGuardedAt l.patterns l.k l.fn.node l.critical o) l.occurrence-items l.occurrence-index
