use Rattle.std.proofs.Common.{[], ◌∷◌, map, drop}
use Rattle.std.specs.Prelude.{codes}
use Rattle.cp_sexpr.specs.View.{view}
use Rattle.cp_report.specs.Heads.{item_with, entries_under, optional_misfits}
use Rattle.cp_report.specs.Skeletons.{scope_of}
use Rattle.cp_report.specs.Labels.{word_of_label, operation_place_misfits, unrealised_misfits, test_misfits}
use Rattle.cp_report.specs.Misfits.{place_before}
use Rattle.cp_scope.proofs.FirstOf.{first_then_three}
use Rattle.cp_readback.proofs.strand_items.about_strands_misfits.Goals as goal

pub returns : goal.returns
returns c =
    let its = map view c.args.items.now in
    let ks = c.args.strands.now in
    first_then_three place_before c.args.first.now c.operation_at_misfits.new.first c.unrealised_item_misfits.new.first c.test_item_misfits.new.first
    (operation_place_misfits ks (word_of_label its) (drop 1 (entries_under (codes "by") its))) (optional_misfits (unrealised_misfits ks) (item_with (codes "unrealised" ∷ []) its))
    (optional_misfits (test_misfits (scope_of its) ks) (item_with (codes "test" ∷ []) its)) c.operation_at_misfits.ensures c.unrealised_item_misfits.ensures c.test_item_misfits.ensures

pub test_item_misfits-requires : goal.test_item_misfits-requires
test_item_misfits-requires c = c.requires
