use Rattle.std.proofs.Common.{◌≡◌, ◌++◌, drop}
use Rattle.cp_derive.specs.Transmissions.{transmissions_among}
use Rattle.cp_derive.proofs.transmission.transmissions.Given as goal

-- with what is sent among the events that are left, all is there
abbrev pub invariant-loop-occurrence : goal.invariant-loop-occurrence
invariant-loop-occurrence l =
    l.transmissions.items ++ transmissions_among (drop l.occurrence-index l.occurrences)
    ≡ transmissions_among l.occurrences
