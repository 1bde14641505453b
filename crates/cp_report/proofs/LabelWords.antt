-- What a label is printed with: the names of the problem's variables and of its own, their numbers, and its items.
use Rattle.std.specs.Prelude.{ℕ, List}
use Rattle.cp_model.specs.declared.variable.Variable.{Variable}
use Rattle.cp_model.specs.Tree.{Label}
use Rattle.cp_sexpr.specs.Syntax.{Form}
use Rattle.cp_language.specs.Names.{problem_names, label_names}
use Rattle.cp_language.specs.Problems.{Problem}
use Rattle.cp_language.specs.Report.{occurring, named_by, label_items}
use Rattle.cp_report.proofs.PrintedVariables.{renumbered}

abbrev pub of_problem : Problem → List (List ℕ)
of_problem p = problem_names p.declared p.variables

abbrev pub names : Problem → Label → List (List ℕ)
names p l = label_names (of_problem p) (occurring l) l.skeleton.variables

abbrev pub named : Problem → Label → Variable → Form
named p l = named_by (names p l)

abbrev pub number : Label → Variable → ℕ
number l = renumbered (occurring l)

abbrev pub items : Problem → Label → List Form
items p l = label_items (of_problem p) (names p l) l
