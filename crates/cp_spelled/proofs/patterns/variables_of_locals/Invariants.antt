use Rattle.std.proofs.Common.{◌≡◌, ◌++◌, ◌+◌, drop}
use Rattle.cp_report.specs.Spelled.{variables_of_locals}
use Rattle.cp_spelled.proofs.patterns.variables_of_locals.Given as goal

abbrev pub invariant-loop-place : goal.invariant-loop-place
invariant-loop-place l =
    l.found ++ variables_of_locals (l.count + l.place) (drop l.place l.locals) ≡ variables_of_locals l.count l.locals
