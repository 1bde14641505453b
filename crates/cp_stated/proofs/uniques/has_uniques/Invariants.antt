use Rattle.std.proofs.Common.{◌≡◌, drop}
use Rattle.cp_report.specs.Skeletons.{has_uniques}
use Rattle.cp_stated.proofs.uniques.has_uniques.Given as goal

abbrev pub invariant-loop-unique : goal.invariant-loop-unique
invariant-loop-unique l = has_uniques l.uniques (drop l.unique-index l.wanted) ≡ has_uniques l.uniques l.wanted
