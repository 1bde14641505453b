use Rattle.std.proofs.Common.{◌≡◌, map, drop}
use Rattle.cp_sexpr.specs.View.{view}
use Rattle.cp_report.specs.ReadBack.{places_of}
use Rattle.cp_spelled.specs.FirstMisfit.{first_onto}
use Rattle.cp_readback.proofs.trees.none_may_stand.Given as goal

abbrev pub invariant-loop-form : goal.invariant-loop-form
invariant-loop-form l = first_onto l.first (places_of (map view (drop l.form-index l.forms))) ≡ first_onto l.initial.first (places_of (map view l.forms))
