use Rattle.std.proofs.Common.{[], ◌∷◌, map, ap, ◌∙◌}
use Rattle.std.specs.Prelude.{codes}
use Rattle.std.proofs.lemmas.Result.{IfOk-weaker}
use Rattle.cp_sexpr.specs.View.{view}
use Rattle.cp_report.specs.Heads.{entries_or_none, item_with}
use Rattle.cp_report.specs.Skeletons.{vars_misfits, declaration_of}
use Rattle.cp_stated.proofs.Entered.{all-asked}
use Rattle.cp_stated.proofs.Results.{when_ok}
use Rattle.cp_readback.proofs.items.variables_item.Goals as goal

pub returns-clause-misfits : goal.returns-clause-misfits
returns-clause-misfits c =
    when_ok c.variables_of.result
    (λ h. all-asked (vars_misfits []) (view c.in-Some.item.now) (item_with (codes "vars" ∷ []) (map view c.args.items.now)) c.place_of.result (map view c.items_behind-entries.result.now)
    c.args.first.now c.lacking.new.first c.variables_of.new.first c.in-Some.ensures c.place_of.ensures c.items_behind-entries.ensures c.lacking.ensures h) c.variables_of.ensures.misfits

pub returns-clause-declared : goal.returns-clause-declared
returns-clause-declared c =
    IfOk-weaker c.variables_of.result _ _
    (λ v h. h ∙ ap (map declaration_of) c.items_behind-entries.ensures ∙ ap (λ o. map declaration_of (entries_or_none o)) c.in-Some.ensures) c.variables_of.ensures.declared
