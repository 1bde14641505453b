use Rattle.std.proofs.Common.{Bor, sym, ap, ◌∙◌}
use Rattle.std.specs.Prelude.{option_map}
use Rattle.cp_load.specs.Inputs.{problem_view}
use Rattle.cp_load.specs.declared.input.Problem.{Problem}
use Rattle.cp_app.proofs.Trees.{is_listed, none_next, tree_next, trees_done}
use Rattle.cp_app.proofs.analysis.trees_of.Goals as goal

pub tree_of-requires : goal.tree_of-requires
tree_of-requires c =
    record { analysable = c.requires.analysable _ (is_listed c.args.entries.now c.loop-entry.entry-index c.entry-item.result (problem_view c.in-Some.problem.now) c.loop-entry-test.true c.entry-item.is c.in-Some.ensures) }

pub loop-entry-preserved-in_default : goal.loop-entry-preserved-in_default
loop-entry-preserved-in_default c =
    none_next c.args.limits c.args.entries.now c.loop-entry.entry-index c.entry-item.result c.loop-entry.trees.items c.loop-entry-test.true c.entry-item.is
    (sym (ap (option_map (λ (p : Bor Problem). problem_view p.now)) c.in_default.is) ∙ c.problem.ensures) c.loop-entry.invariant

pub loop-entry-preserved : goal.loop-entry-preserved
loop-entry-preserved c =
    tree_next c.args.limits c.args.entries.now c.loop-entry.entry-index c.entry-item.result (problem_view c.in-Some.problem.now) c.loop-entry.trees.items c.push.new.self.items c.loop-entry-test.true c.entry-item.is c.in-Some.ensures
    (c.in_ok-tree.tree, c.in_ok-tree.ensures, c.in_ok-push.ensures.items) c.loop-entry.invariant

pub returns : goal.returns
returns c = trees_done c.args.limits c.args.entries.now c.loop-entry.entry-index c.loop-entry.trees.items c.loop-entry-test.false c.loop-entry.invariant
