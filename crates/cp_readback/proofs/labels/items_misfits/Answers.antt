use Rattle.std.proofs.Common.{Bool, ◌++◌, [], if◌then◌else◌, map, refl, ap, ◌∙◌}
use Rattle.std.specs.Prelude.{option_map}
use Rattle.cp_sexpr.specs.View.{view}
use Rattle.cp_load.specs.UncheckedProblems.{unchecked_view}
use Rattle.cp_report.specs.Misfits.{first_or}
use Rattle.cp_report.specs.Heads.{up_to_strands, lines_of_label, order_misfits}
use Rattle.cp_report.specs.Skeletons.{around_strands_misfits}
use Rattle.cp_report.specs.Labels.{about_strands_misfits, has_children}
use Rattle.cp_spelled.specs.FirstMisfit.{first_onto}
use Rattle.cp_items.specs.Parts.{is_fitting}
use Rattle.cp_readback.specs.Parts.{mark_item_misfits}
use Rattle.cp_readback.specs.Families.{labels_of}
use Rattle.cp_readback.proofs.AllItems.{all-items}
use Rattle.cp_readback.proofs.labels.items_misfits.Goals as goal

pub returns : goal.returns
returns c =
    let p = unchecked_view c.args.setting.problem.now in
    let tree = option_map (λ f. labels_of f.now) c.args.setting.tree in
    let its = map view c.args.label.items.now in
    let around = around_strands_misfits p (first_or c.args.label.place (order_misfits lines_of_label its)) its ++ about_strands_misfits p its in
    let r = c.strands_item_misfits.new.first in
    let q = c.children_item_misfits.new.first in
    all-items p tree c.args.label.number c.args.label.place its
    c.args.first.now c.order_misfits.new.first c.missing_if.new.first c.no_parent_misfits.new.first c.parent_item_misfits.new.first c.operation_item_misfits.new.first
    c.variables_item.new.first r c.behind_strands_if.new.first c.escape_item_misfits.new.first q c.mark_misfits.new.first
    c.are_in_order.result (is_fitting (order_misfits lines_of_label (up_to_strands its))) c.in_ok-fit.fit c.strand_count.result
    c.are_in_order.ensures refl c.order_misfits.ensures c.missing_if.ensures c.no_parent_misfits.ensures c.parent_item_misfits.ensures
    c.strand_count.ensures c.operation_item_misfits.ensures c.in_ok-variables.ensures.misfits c.in_ok-fit.ensures.fit c.in_ok-fit.ensures.misfits
    (c.in_ok-behind_strands_if.ensures ∙ ap (λ (b : Bool). first_onto r (if b then around else [])) c.are_known-is_asked.ensures)
    c.in_ok-escape_item_misfits.ensures c.in_ok-children_item_misfits.ensures
    (c.mark_misfits.ensures ∙ ap (λ (b : Bool). first_onto q (mark_item_misfits tree b (option_map (λ f. view f.now) c.mark_item.result))) c.has_children.ensures
    ∙ ap (λ o. first_onto q (mark_item_misfits tree (has_children its) o)) c.mark_item.ensures)
