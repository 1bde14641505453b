use Rattle.std.proofs.Common.{[], ◌∷◌, ◌++◌, List, map, ap, ◌∙◌}
use Rattle.std.specs.Prelude.{Option, None, option_map, codes}
use Rattle.cp_model.specs.Skeleton.{UniqueAt}
use Rattle.cp_sexpr.specs.Syntax.{Form}
use Rattle.cp_sexpr.specs.View.{view}
use Rattle.cp_report.specs.Misfits.{lacking}
use Rattle.cp_report.specs.Heads.{entries_or_none, item_with, optional_misfits, place_or}
use Rattle.cp_report.specs.Spelled.{Scope}
use Rattle.cp_report.specs.Skeletons.{scope_of, unique_of, has_uniques, uniques_misfits, uniques_under}
use Rattle.cp_spelled.specs.FirstMisfit.{first_onto}
use Rattle.cp_spelled.specs.Views.{scope_view}
use Rattle.cp_stated.proofs.GivenOnce.{assumption-read}
use Rattle.cp_stated.proofs.uniques.all_uniques_misfits.Goals as goal

pub returns : goal.returns
returns c =
    let items = map view c.args.items.now in
    let ks = c.args.strands.now in
    let given = c.args.given.now in
    let item = item_with (codes "uniq-orig" ∷ []) items in
    let s = scope_of items in
    let shape = λ (t : Scope) (o : Option Form). optional_misfits (λ p fs. lacking 1 p fs ++ uniques_misfits t ks [] fs) o in
    let inside =
    c.in_ok-uniques.ensures.misfits ∙ ap (λ x. first_onto x (shape (scope_view c.args.scope) (option_map (λ f. view f.now) c.item_with-item.result))) c.new-inside.ensures
    ∙ ap (λ o. first_onto None (shape (scope_view c.args.scope) o)) c.item_with-item.ensures ∙ ap (λ t. first_onto None (shape t item)) c.requires in
    let listed =
    c.deref.ensures.value ∙ c.in_ok-uniques.ensures.uniques ∙ ap (λ o. map (unique_of (scope_view c.args.scope)) (entries_or_none o)) c.item_with-item.ensures ∙ ap (λ (t : Scope). map (unique_of t) (entries_or_none item)) c.requires in
    assumption-read c.args.place c.place_or.result item (uniques_misfits s ks []) c.args.first.now c.optional_uniques_misfits.new.first c.note_unless_misfit.new.self c.merge.new.self (has_uniques (uniques_under items) given) c.has_uniques.result
    inside (c.has_uniques.ensures ∙ ap (λ (us : List UniqueAt). has_uniques us given) listed) (c.place_or.ensures ∙ ap (place_or c.args.place) c.item_with-item.ensures) c.note_unless_misfit.ensures c.merge.ensures
