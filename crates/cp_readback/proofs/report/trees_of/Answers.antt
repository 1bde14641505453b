use Rattle.std.proofs.Common.{Bor, sym, ap, ◌∙◌}
use Rattle.std.specs.Prelude.{option_map}
use Rattle.cp_lists.proofs.Items.{map_of_read}
use Rattle.cp_load.specs.UncheckedProblems.{unchecked_view}
use Rattle.cp_load.specs.declared.unchecked_problems.UncheckedProblem.{UncheckedProblem}
use Rattle.cp_readback.specs.Sections.{section_view}
use Rattle.cp_readback.specs.Reports.{all_unchecked_view}
use Rattle.cp_readback.proofs.InSections.{tree-taken, tree-passed, trees-done}
use Rattle.cp_readback.proofs.report.trees_of.Goals as goal

pub tree_of-requires : goal.tree_of-requires
tree_of-requires c = record {
  fits = c.requires.trees c.loop-place.place (unchecked_view c.in-Some.problem.now) (section_view c.index-sections-place.result) (sym c.in-Some.ensures)
      (map_of_read section_view c.args.sections.now c.loop-place.place c.index-sections-place.result c.loop-place-test.true c.index-sections-place.is);
}

pub loop-place-preserved-in_default : goal.loop-place-preserved-in_default
loop-place-preserved-in_default c =
    tree-passed c.args.sections.now c.loop-place.place c.index-sections-place.result c.loop-place-test.true c.index-sections-place.is (all_unchecked_view c.args.unchecked_entries.now) c.loop-place.trees.items _
    (sym (ap (option_map (λ (d : Bor UncheckedProblem). unchecked_view d.now)) c.in_default.is) ∙ c.unchecked_at.ensures) c.loop-place.invariant

pub loop-place-preserved : goal.loop-place-preserved
loop-place-preserved c =
    tree-taken c.args.sections.now c.loop-place.place c.index-sections-place.result c.loop-place-test.true c.index-sections-place.is (all_unchecked_view c.args.unchecked_entries.now) c.loop-place.trees.items
    c.push.new.self.items _ (unchecked_view c.in-Some.problem.now) c.in_ok-tree.tree c.in-Some.ensures c.in_ok-tree.ensures
    c.in_ok-push.ensures.items c.loop-place.invariant

pub returns : goal.returns
returns c = trees-done c.args.sections.now c.loop-place.place c.loop-place-test.false (all_unchecked_view c.args.unchecked_entries.now) c.loop-place.trees.items _ c.loop-place.invariant
