use Rattle.std.proofs.Common.{take}
use Rattle.cp_derive.specs.AtNode.{AreSentBefore}
use Rattle.cp_derive.proofs.before.sent_before.Given as goal

abbrev pub invariant-loop-located : goal.invariant-loop-located
invariant-loop-located l = AreSentBefore l.preceding (take l.located-index l.events) l.sent.items
