-- Trees that can be stated, for each input: of one label, which is the problem itself.
use Rattle.std.specs.Prelude.{[], ◌∷◌, List, map, Some, None}
use Rattle.cp_model.specs.Tree.{Label, Tree}
use Rattle.cp_model.specs.declared.tree.Operation.TheVariants.{Problem as by_problem}
use Rattle.cp_model.specs.declared.tree.Mark.TheVariants.{Dead as dead}
use Rattle.cp_model.specs.declared.tree.Outcome.TheVariants.{Complete as complete}
use Rattle.cp_sexpr.specs.Syntax.{Forms}
use Rattle.cp_language.specs.Problems.{Problem}
use Rattle.cp_language.specs.Input.{input_of}
use Rattle.cp_report.specs.FittingTrees.{problems_in}

-- The label of a problem itself.
abbrev pub own_label : Problem → Label
own_label p = record { parent = None; operation = by_problem; skeleton = p.skeleton; unrealised = []; test = None; escape = []; children = []; mark = Some dead }

abbrev pub own_tree : Problem → Tree
own_tree p = record { labels = own_label p ∷ []; outcome = complete }

-- A tree of one label for each problem.
abbrev pub own_trees : Forms → List Tree
own_trees input = map own_tree (problems_in (input_of input))
