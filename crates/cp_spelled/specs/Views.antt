-- What the program's scopes stand for.
use Rattle.cp_report.specs.Spelled as report
use Rattle.cp_spelled.specs.declared.scope.Scope.{Scope}

abbrev pub scope_view : Scope → report.Scope
scope_view s = record { variables = s.variables.now; in_pattern = s.in_pattern; locals = s.locals.now }
