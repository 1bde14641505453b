use Rattle.std.proofs.Common.{Bor, map, ap, ◌∙◌}
use Rattle.std.specs.Prelude.{option_map}
use Rattle.cp_sexpr.specs.View.{view}
use Rattle.cp_load.specs.UncheckedProblems.{unchecked_view}
use Rattle.cp_readback.specs.Families.{labels_of}
use Rattle.cp_readback.specs.declared.parents.Family.{Family}
use Rattle.cp_readback.proofs.InTree.{through, tree-asked}
use Rattle.cp_readback.proofs.trees.tree_misfits.Goals as goal

pub returns : goal.returns
returns c =
    let tree = option_map (λ f. labels_of f.now) c.as_ref.result in
    let is_tree = through (λ (f : Bor Family). f.now) labels_of c.as_ref.result ∙ ap (option_map labels_of) c.as_ref.ensures.value ∙ c.in_ok-family.ensures.labels in
    tree-asked (unchecked_view c.args.problem.now) c.args.next (map view c.args.behind.now) (map view c.split_at_labels.result.0.now) (map view c.split_at_labels.result.1.now) tree c.counts_of.result
    c.args.first.now c.labels_misfits.new.first c.ending_misfits.new.first c.split_at_labels.ensures.labels c.split_at_labels.ensures.behind is_tree c.counts_of.ensures c.in_ok-labels_misfits.ensures c.ending_misfits.ensures
