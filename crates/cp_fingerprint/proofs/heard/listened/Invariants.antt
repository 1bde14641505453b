use Rattle.std.proofs.Common.{◌≡◌, ◌++◌, drop}
use Rattle.cp_fingerprint.specs.SharedValues.{listened}
use Rattle.cp_fingerprint.proofs.heard.listened.Given as goal

abbrev pub invariant-loop-strand : goal.invariant-loop-strand
invariant-loop-strand l = l.events.items ++ listened (drop l.strand-index l.strands) ≡ listened l.strands
