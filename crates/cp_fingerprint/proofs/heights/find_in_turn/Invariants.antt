use Rattle.std.proofs.Common.{◌≡◌, drop}
use Rattle.cp_fingerprint.specs.InTurn.{find_in_turn}
use Rattle.cp_fingerprint.proofs.heights.find_in_turn.Given as goal

abbrev pub invariant-loop-other : goal.invariant-loop-other
invariant-loop-other l = find_in_turn l.left (drop l.other-index l.others) ≡ find_in_turn l.heights l.others
