use Rattle.cp_theory.proofs.LabelDescents.{left_is_complete, shapes_are_complete}
use Rattle.cp_theory.proofs.trees.lawful_trees_are_complete.Goals as goal

pub returns-clause-left : goal.returns-clause-left
returns-clause-left c = left_is_complete

pub returns-clause-shapes : goal.returns-clause-shapes
returns-clause-shapes c = shapes_are_complete
