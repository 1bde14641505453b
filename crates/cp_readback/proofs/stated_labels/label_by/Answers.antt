use Rattle.std.proofs.Common.{[], ◌∷◌, map, ap, ◌∙◌}
use Rattle.std.specs.Prelude.{codes}
use Rattle.cp_sexpr.specs.View.{view}
use Rattle.cp_load.specs.UncheckedProblems.{unchecked_view}
use Rattle.cp_report.specs.Heads.{item_with, entries_under}
use Rattle.cp_report.specs.Spelled.{Scope, pattern_of}
use Rattle.cp_report.specs.Labels.{test_of}
use Rattle.cp_readback.proofs.LabelParts.{label-is}
use Rattle.cp_readback.proofs.stated_labels.label_by.Goals as goal

pub returns : goal.returns
returns c =
    let its = map view c.args.items.now in
    let with = c.label_with.ensures in
    let how = c.in_ok-expansion.ensures in
    label-is (unchecked_view c.args.problem.now) its its _ (λ i. its)
    with.parent
    (with.operation ∙ c.in_ok-operation.ensures)
    (with.skeleton ∙ c.in_ok-skeleton.ensures.skeleton)
    (with.unrealised ∙ how.unrealised)
    (with.test ∙ how.test ∙ ap (λ (s : Scope). test_of s (item_with (codes "test" ∷ []) its)) c.requires.scope)
    (with.escape ∙ how.patterns ∙ ap (λ (s : Scope). map (pattern_of s.variables) (entries_under (codes "escape") its)) c.requires.scope)
    (with.children ∙ how.children)
    with.mark
