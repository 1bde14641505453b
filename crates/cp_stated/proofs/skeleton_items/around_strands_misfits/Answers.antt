use Rattle.std.proofs.Common.{[], ◌∷◌, map, ap, ◌∙◌}
use Rattle.std.specs.Prelude.{codes}
use Rattle.cp_model.specs.Skeleton.{Assumptions}
use Rattle.cp_model.specs.Given.{given_non, given_penetrator_non}
use Rattle.cp_sexpr.specs.View.{view}
use Rattle.cp_load.specs.UncheckedProblems.{unchecked_view}
use Rattle.cp_report.specs.Heads.{item_with}
use Rattle.cp_report.specs.Skeletons.{scope_of, strands_of_label, values_misfits, all_uniques_misfits}
use Rattle.cp_spelled.specs.Views.{scope_view}
use Rattle.cp_stated.specs.AssumptionEntries.{uniques_item_misfits}
use Rattle.cp_stated.proofs.GivenOnce.{values-once, all-uniques-once, three-parts, around-parts, way-same}
use Rattle.cp_stated.proofs.Results.{when_ok}
use Rattle.cp_stated.proofs.skeleton_items.around_strands_misfits.Goals as goal

pub returns : goal.returns
returns c =
    let p = unchecked_view c.args.problem.now in
    let items = map view c.args.items.now in
    let ks = c.args.strands.now in
    let at = c.args.place in
    let non = c.non_originating-non.result.now in
    let penetrator_non = c.penetrator_non_originating-penetrator_non.result.now in
    let uniques = c.uniquely_originating-uniques.result.now in
    let way = way-same p c.deref.result.now c.args.names.now (scope_view c.args.scope) (scope_of items) ks (strands_of_label p items) (item_with (codes "map" ∷ []) items)
    c.deref.ensures.value c.requires.names c.requires.scope c.requires.strands in
    let assumed =
    three-parts c.order_misfits.new.first c.values_misfits.new.first c.values_misfits-2.new.first c.all_uniques_misfits.new.first
    (values_misfits at (codes "non-orig") non items) (values_misfits at (codes "pen-non-orig") penetrator_non items) (uniques_item_misfits at ks uniques items)
    (values_misfits at (codes "non-orig") (given_non ks) items) (values_misfits at (codes "pen-non-orig") (given_penetrator_non ks) items) (all_uniques_misfits at ks items)
    (values-once at (codes "non-orig") items non (given_non ks) (c.non_originating-non.ensures ∙ ap (λ (a : Assumptions). a.non_originating) c.in_ok-given.ensures))
    (values-once at (codes "pen-non-orig") items penetrator_non (given_penetrator_non ks) (c.penetrator_non_originating-penetrator_non.ensures ∙ ap (λ (a : Assumptions). a.penetrator_non_originating) c.in_ok-given.ensures))
    (all-uniques-once at ks items uniques (c.uniquely_originating-uniques.ensures ∙ ap (λ (a : Assumptions). a.uniquely_originating) c.in_ok-given.ensures))
    c.in_ok-values_misfits.ensures c.in_ok-values_misfits-2.ensures c.in_ok-all_uniques_misfits.ensures in
    when_ok c.map_misfits.result
    (λ h. around-parts p at items ks c.requires.strands c.args.first.now c.order_misfits.new.first c.all_uniques_misfits.new.first c.map_misfits.new.first _ way c.in_ok-order_misfits.ensures assumed h)
    c.map_misfits.ensures

pub values_misfits-requires : goal.values_misfits-requires
values_misfits-requires c = c.requires.scope

pub values_misfits-requires-2 : goal.values_misfits-requires-2
values_misfits-requires-2 c = c.requires.scope

pub all_uniques_misfits-requires : goal.all_uniques_misfits-requires
all_uniques_misfits-requires c = c.requires.scope
