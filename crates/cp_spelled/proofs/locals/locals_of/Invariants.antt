use Rattle.std.proofs.Common.{◌≡◌, [], drop}
use Rattle.cp_report.specs.Spelled.{clash_misfits, locals_onto}
use Rattle.cp_spelled.specs.FirstMisfit.{first_onto}
use Rattle.cp_spelled.proofs.locals.locals_of.Given as goal

abbrev pub invariant-loop-next : goal.invariant-loop-next
invariant-loop-next l =
    (first_onto l.first (clash_misfits l.locals (drop l.next-index l.found)) ≡ first_onto l.initial.first (clash_misfits [] l.found))
    × (locals_onto l.locals (drop l.next-index l.found) ≡ locals_onto [] l.found)
