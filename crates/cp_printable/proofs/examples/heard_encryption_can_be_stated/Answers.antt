use Rattle.cp_cohort.proofs.OneChild.{roles_declare}
use Rattle.cp_tree.specs.Example.{heard_tree, one_step_limits}
use Rattle.cp_printable.specs.Example.{heard_problem}
use Rattle.cp_printable.proofs.ExampleRoots.{heard_roots}
use Rattle.cp_printable.proofs.ExampleVariables.{have_variables, are_few}
use Rattle.cp_printable.proofs.StatedTrees.{tree_fits}
use Rattle.cp_printable.proofs.examples.heard_encryption_can_be_stated.Goals as goal

pub returns-clause-searched : goal.returns-clause-searched
returns-clause-searched c = record { roots = _; are_roots = heard_roots; from_roots = c.heard_encryption_has_a_tree.ensures.tree }

pub returns-clause-fits : goal.returns-clause-fits
returns-clause-fits c =
    let tree = c.heard_encryption_has_a_tree.ensures in
    tree_fits heard_problem one_step_limits heard_tree roles_declare tree.problem tree.truth (record { roots = _; are_roots = heard_roots; from_roots = tree.tree }) have_variables are_few
