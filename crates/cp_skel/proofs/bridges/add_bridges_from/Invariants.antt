use Rattle.std.proofs.Common.{◌≡◌, ◌++◌, drop}
use Rattle.cp_skel.specs.Bridges.{bridges_from}
use Rattle.cp_skel.proofs.bridges.add_bridges_from.Given as goal

abbrev pub invariant-loop-out : goal.invariant-loop-out
invariant-loop-out l =
    l.found.items ++ bridges_from l.gone l.into (drop l.out-index l.pairs)
    ≡ l.initial.found.items ++ bridges_from l.gone l.into l.pairs
