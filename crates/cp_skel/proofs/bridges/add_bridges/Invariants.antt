use Rattle.std.proofs.Common.{◌≡◌, ◌++◌, drop}
use Rattle.cp_skel.specs.Bridges.{bridges}
use Rattle.cp_skel.proofs.bridges.add_bridges.Given as goal

abbrev pub invariant-loop-into : goal.invariant-loop-into
invariant-loop-into l =
    l.found.items ++ bridges l.gone l.pairs (drop l.into-index l.pairs)
    ≡ l.initial.found.items ++ bridges l.gone l.pairs l.pairs
