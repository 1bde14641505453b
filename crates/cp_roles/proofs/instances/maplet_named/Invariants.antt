use Rattle.std.proofs.Common.{◌≡◌, drop, map}
use Rattle.cp_sexpr.specs.View.{view}
use Rattle.cp_roles.specs.InstanceTerms.{maplet_named}
use Rattle.cp_roles.proofs.instances.maplet_named.Given as goal

abbrev pub invariant-loop-maplet : goal.invariant-loop-maplet
invariant-loop-maplet l = maplet_named l.identifier (map view (drop l.maplet-index l.maplets)) ≡ maplet_named l.identifier (map view l.maplets)
