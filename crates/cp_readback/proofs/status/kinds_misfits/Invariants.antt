use Rattle.std.proofs.Common.{◌≡◌, map, drop}
use Rattle.cp_sexpr.specs.View.{view}
use Rattle.cp_report.specs.Misfits.{entries_misfits}
use Rattle.cp_spelled.specs.FirstMisfit.{first_onto}
use Rattle.cp_readback.specs.Kinds.{kind_misfits}
use Rattle.cp_readback.proofs.status.kinds_misfits.Given as goal

abbrev pub invariant-loop-kind : goal.invariant-loop-kind
invariant-loop-kind l =
    first_onto l.first (entries_misfits (map kind_misfits (drop l.kind-index l.kinds)) l.place (map view l.rest))
    ≡ first_onto l.initial.first (entries_misfits (map kind_misfits l.kinds) l.place (map view l.items))
