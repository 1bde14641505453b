use Rattle.std.proofs.Common.{◌≡◌, ◌++◌, drop}
use Rattle.cp_skel.specs.Events.{located_events_from, events_of}
use Rattle.cp_skel.proofs.skeleton.Skeleton.own_events.Given as goal

-- with the events of the strands that are left, all is there
abbrev pub invariant-loop-number : goal.invariant-loop-number
invariant-loop-number l = l.made.items ++ located_events_from l.number (drop l.number l.self.strands) ≡ events_of l.self
