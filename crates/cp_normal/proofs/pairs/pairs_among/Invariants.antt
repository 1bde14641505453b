use Rattle.cp_collapse.specs.Property.{Has}
use Rattle.cp_normal.specs.Events.{IsPairBetween}
use Rattle.cp_normal.proofs.ListLoops.{IsGathering}
use Rattle.cp_normal.proofs.pairs.pairs_among.Given as goal

abbrev pub invariant-loop-occurrence : goal.invariant-loop-occurrence
invariant-loop-occurrence l = IsGathering (λ o p. Has (λ u. IsPairBetween o u p) l.uniques) l.occurrences l.occurrence-index l.initial.pairs.items l.pairs.items

abbrev pub invariant-loop-unique : goal.invariant-loop-unique
invariant-loop-unique l = IsGathering (λ u p. IsPairBetween l.occurrence u p) l.uniques l.unique-index l.initial.pairs.items l.pairs.items
