-- The form that a `Form` of the program stands for.
use Rattle.std.specs.Prelude.{List, map}
use Rattle.cp_sexpr.specs.Syntax.{Form, symbol, string, number, list, Forms, forms_of}
use Rattle.cp_sexpr.specs.declared.form.Form as program
use Rattle.cp_sexpr.specs.declared.form.Form.TheOpen.{Form-F}

-- one level, with each form inside already seen
abbrev pub view_step : Form-F Form → Form
view_step (Form-F.Symbol at t) = symbol at t
view_step (Form-F.String at t) = string at t
view_step (Form-F.Number at n) = number at n
view_step (Form-F.List at items) = list at (forms_of items.items)

abbrev pub view : program.Form → Form
view = program.fold-Form Form view_step

-- the forms that a list of forms of the program stands for
abbrev pub views : List program.Form → Forms
views fs = forms_of (map view fs)
