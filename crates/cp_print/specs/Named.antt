-- How the printer names variables.
use Rattle.cp_model.specs.declared.variable.Variable.{Variable}
use Rattle.cp_sexpr.specs.Syntax.{Form}
use Rattle.cp_language.specs.Printed.{place_among, local_or_name}
use Rattle.cp_language.specs.Report.{named_by}
use Rattle.cp_print.specs.declared.variable_names.Naming.{Naming}

-- A variable by its name, and a local by its place.
abbrev pub named_in : Naming → Variable → Form
named_in n x = local_or_name (named_by n.names.now) x (place_among 0 n.locals.now x)
