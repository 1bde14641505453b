use Rattle.std.proofs.Common.{◌≡◌, List, Option, None, map, sym, ap, ◌∙◌}
use Rattle.std.specs.Prelude.{is_none}
use Rattle.cp_base.specs.declared.place.Place.{Place}
use Rattle.cp_model.specs.Strand.{Role}
use Rattle.cp_sexpr.specs.View.{view}
use Rattle.cp_load.specs.UncheckedProblems.{unchecked_view}
use Rattle.cp_report.specs.Misfits.{place_before, each_misfits}
use Rattle.cp_report.specs.Heads.{items_with, strand_heads}
use Rattle.cp_report.specs.Spelled.{Scope}
use Rattle.cp_report.specs.Skeletons.{strand_misfits, strands_misfits}
use Rattle.cp_spelled.specs.FirstMisfit.{first_onto, merged}
use Rattle.cp_spelled.specs.Views.{scope_view}
use Rattle.cp_scope.proofs.FirstOf.{first_onto-merged}
use Rattle.cp_spelled.proofs.Firsts.{in_order}
use Rattle.cp_items.proofs.FitItems.{fitting-found}
use Rattle.cp_readback.proofs.labels.strands_item_misfits.Goals as goal

-- what was met inside
met : (c : goal.After-merge) → c.strands_misfits.new.first ≡ first_onto None (strands_misfits (unchecked_view c.args.setting.problem.now) (map view c.args.items.now))
met c =
    let its = map view c.args.items.now in
    let roles = (unchecked_view c.args.setting.problem.now).protocol.roles in
    let asked = λ (rs : List Role) (s : Scope). each_misfits (strand_misfits rs s) (items_with strand_heads its) in
    let s = scope_view c.args.scope in
    c.in_ok-strands_misfits.ensures ∙ ap (λ (o : Option Place). first_onto o (asked (map (λ r. r.value) c.roles-roles.result.now) s)) c.new-inside.ensures
    ∙ ap (λ (rs : List Role). first_onto None (asked rs s)) (c.roles-roles.ensures ∙ ap (λ p. p.roles) c.deref.ensures) ∙ ap (λ (t : Scope). first_onto None (asked roles t)) c.requires

pub returns-clause-fit : goal.returns-clause-fit
returns-clause-fit c = c.is_none-fit.ensures ∙ ap is_none (met c) ∙ fitting-found (strands_misfits (unchecked_view c.args.setting.problem.now) (map view c.args.items.now))

pub returns-clause-misfits : goal.returns-clause-misfits
returns-clause-misfits c =
    c.merge.ensures ∙ ap (merged c.args.first.now) (met c) ∙ sym (first_onto-merged place_before in_order c.args.first.now (strands_misfits (unchecked_view c.args.setting.problem.now) (map view c.args.items.now)))
