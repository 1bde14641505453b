use Rattle.std.proofs.Common.{List, [], ◌∷◌, map, sym, ap, ◌∙◌}
use Rattle.std.specs.Prelude.{codes}
use Rattle.cp_sexpr.specs.View.{view}
use Rattle.cp_sexpr.specs.declared.form.Form as program
use Rattle.cp_report.specs.Misfits.{place_before, list_misfits}
use Rattle.cp_report.specs.Heads.{item_with}
use Rattle.cp_report.specs.Skeletons.{mapping_misfits}
use Rattle.cp_spelled.specs.FirstMisfit.{first_onto}
use Rattle.cp_spelled.specs.Views.{scope_view}
use Rattle.cp_scope.proofs.FirstOf.{first_then}
use Rattle.cp_stated.specs.ProblemMap.{strands_of_problem_misfits, map_misfits_to}
use Rattle.cp_stated.proofs.Entered.{item-asked, item-missing, no-entries}
use Rattle.cp_stated.proofs.Results.{when_ok}
use Rattle.cp_stated.proofs.problem_map.map_misfits.Goals as goal

pub returns-in_default : goal.returns-in_default
returns-in_default c =
    let e = c.args.ends in
    item-missing (map_misfits_to e.problem.now e.names.now (scope_view e.scope) e.strands.now) (item_with (codes "map" ∷ []) (map view c.args.items.now)) c.args.first.now c.in_default.ensures

pub returns-in_default-split_first : goal.returns-in_default-split_first
returns-in_default-split_first c =
    let e = c.args.ends in
    let asked = map_misfits_to e.problem.now e.names.now (scope_view e.scope) e.strands.now in
    item-asked asked (view c.in-Some.item.now) (item_with (codes "map" ∷ []) (map view c.args.items.now)) c.place_of-place.result (map view c.items_behind.result.now)
    c.args.first.now c.note.new.self c.in-Some.ensures c.place_of-place.ensures c.items_behind.ensures
    (c.note.ensures ∙ ap (λ fs. first_onto c.args.first.now (asked c.place_of-place.result fs)) (sym (no-entries c.items_behind.result.now c.in_default-split_first.ensures.cases)))

pub returns : goal.returns
returns c =
    let e = c.args.ends in
    let problem = e.problem.now in
    let names = e.names.now in
    let s = scope_view e.scope in
    let ks = e.strands.now in
    let at = c.place_of-place.result in
    when_ok c.mapping_misfits.result
    (λ h. item-asked (map_misfits_to problem names s ks) (view c.in-Some.item.now) (item_with (codes "map" ∷ []) (map view c.args.items.now)) at (map view c.items_behind.result.now)
    c.args.first.now c.mapping_misfits.new.first c.in-Some.ensures c.place_of-place.ensures c.items_behind.ensures
    (first_then place_before c.args.first.now c.strands_mapped_misfits.new.first c.mapping_misfits.new.first (list_misfits (strands_of_problem_misfits problem ks) (view c.in-Some-split_first.numbers.now))
    (mapping_misfits s names at (map view c.in-Some-split_first.maplets.now)) c.strands_mapped_misfits.ensures h
    ∙ ap (λ (fs : List program.Form). first_onto c.args.first.now (map_misfits_to problem names s ks at (map view fs))) (sym c.in-Some-split_first.ensures.cases.0))) c.mapping_misfits.ensures
