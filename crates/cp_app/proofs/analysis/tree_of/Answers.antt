use Rattle.std.proofs.Common.{subst}
use Rattle.cp_load.specs.Inputs.{problem_view}
use Rattle.cp_model.specs.Declares.{HasDeclaringRoles}
use Rattle.cp_app.proofs.Trees.{analysis_of}
use Rattle.cp_app.proofs.analysis.tree_of.Goals as goal

pub returns : goal.returns
returns c =
    let limits = c.args.limits in
    let problem = problem_view c.args.problem.now in
    let tree = c.in_ok-tree.tree in
    let found = c.in_ok-tree.ensures in
    let truth = rw c.deref.ensures at found.true_tree in
    let exact = rw c.deref.ensures at found.exact in
    let few = rw c.as_slice.ensures at c.have_few_variables.ensures in
    analysis_of limits problem tree truth exact found.variables
    (λ variables. c.search_trees_can_be_stated.ensures problem limits tree (subst HasDeclaringRoles c.deref-2.ensures c.is_sound.ensures) c.requires.analysable.own truth exact variables few)
