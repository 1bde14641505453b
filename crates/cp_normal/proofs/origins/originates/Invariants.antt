use Rattle.std.proofs.Common.{◌≡◌, drop}
use Rattle.cp_skel.specs.Events.{LocatedEvent}
use Rattle.cp_collapse.specs.Property.{Has}
use Rattle.cp_normal.proofs.origins.originates.Given as goal

abbrev pub invariant-loop-occurrence : goal.invariant-loop-occurrence
invariant-loop-occurrence l = Has (λ (o : LocatedEvent). o.node ≡ l.origin) l.occurrences → Has (λ (o : LocatedEvent). o.node ≡ l.origin) (drop l.occurrence-index l.occurrences)
