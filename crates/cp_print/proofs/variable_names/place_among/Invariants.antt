use Rattle.std.proofs.Common.{◌≡◌, drop}
use Rattle.cp_language.specs.Printed.{variable, place_among}
use Rattle.cp_print.proofs.variable_names.place_among.Given as goal

abbrev pub invariant-loop-place : goal.invariant-loop-place
invariant-loop-place l =
    place_among l.place (drop l.place l.locals) (variable l.sort l.number) ≡ place_among 0 l.locals (variable l.sort l.number)
