use Rattle.std.proofs.Common.{◌≡◌, ◌++◌, drop}
use Rattle.cp_skel.specs.Events.{located_events_from}
use Rattle.cp_skel.proofs.skeleton.Skeleton.events.Given as goal

-- with the events of the strands that are left, all is there
abbrev pub invariant-loop-number : goal.invariant-loop-number
invariant-loop-number l =
    l.occurrences.items ++ located_events_from l.number (drop l.number l.self.strands)
    ≡ located_events_from 0 l.self.strands
