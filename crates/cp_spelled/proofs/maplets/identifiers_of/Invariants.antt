use Rattle.std.proofs.Common.{◌≡◌, ◌++◌, drop, map}
use Rattle.cp_sexpr.specs.View.{view}
use Rattle.cp_report.specs.Skeletons.{identifier_of}
use Rattle.cp_spelled.proofs.maplets.identifiers_of.Given as goal

abbrev pub invariant-loop-maplet : goal.invariant-loop-maplet
invariant-loop-maplet l = l.identifiers ++ map identifier_of (map view (drop l.maplet-index l.maplets)) ≡ map identifier_of (map view l.maplets)
