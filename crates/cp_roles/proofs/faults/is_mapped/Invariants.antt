use Rattle.std.proofs.Common.{◌≡◌, drop, map}
use Rattle.cp_sexpr.specs.View.{view}
use Rattle.cp_language.specs.Words.{is_one_of}
use Rattle.cp_roles.specs.Mapped.{mapped_names}
use Rattle.cp_roles.proofs.faults.is_mapped.Given as goal

abbrev pub invariant-loop-maplet : goal.invariant-loop-maplet
invariant-loop-maplet l = is_one_of l.identifier (mapped_names (map view (drop l.maplet-index l.maplets))) ≡ is_one_of l.identifier (mapped_names (map view l.maplets))
