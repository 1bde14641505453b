use Rattle.std.proofs.Common.{take}
use Rattle.cp_general.proofs.NeededParts.{HoldsYet}
use Rattle.cp_general.proofs.needed.all_sent_apart.Given as goal

abbrev pub invariant-loop-located : goal.invariant-loop-located
invariant-loop-located l = HoldsYet l.part l.preceding (take l.located-index l.events) l.sent
