use Rattle.cp_model.specs.Problem.{variables_of_skeleton}
use Rattle.cp_normal.proofs.Distinct.{distinct}
use Rattle.cp_normal.proofs.beside.forms_among.Given as goal

abbrev pub ghosts-each_leaves : goal.ghosts-each_leaves
ghosts-each_leaves a = record { rank = λ f. distinct (variables_of_skeleton f.skeleton) }
