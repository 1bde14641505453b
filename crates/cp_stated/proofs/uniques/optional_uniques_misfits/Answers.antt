use Rattle.std.proofs.Common.{[], map, sym, ap, ◌∙◌}
use Rattle.std.specs.Prelude.{option_map}
use Rattle.std.proofs.lemmas.Result.{IfOk-weaker}
use Rattle.cp_sexpr.specs.View.{view}
use Rattle.cp_report.specs.Heads.{entries_or_none}
use Rattle.cp_report.specs.Skeletons.{unique_of, uniques_misfits}
use Rattle.cp_spelled.specs.Views.{scope_view}
use Rattle.cp_stated.proofs.Entered.{all-asked}
use Rattle.cp_stated.proofs.Results.{when_ok}
use Rattle.cp_stated.proofs.uniques.optional_uniques_misfits.Goals as goal

pub returns-clause-misfits : goal.returns-clause-misfits
returns-clause-misfits c =
    when_ok c.uniques_misfits.result
    (λ h. all-asked (uniques_misfits (scope_view c.args.scope) c.args.strands.now []) (view c.in-Some.item.now) (option_map (λ f. view f.now) c.args.item) c.place_of.result
    (map view c.items_behind-entries.result.now) c.args.first.now c.lacking.new.first c.uniques_misfits.new.first (sym (ap (option_map (λ f. view f.now)) c.in-Some.is)) c.place_of.ensures c.items_behind-entries.ensures
    c.lacking.ensures h) c.uniques_misfits.ensures.misfits

pub returns-clause-uniques : goal.returns-clause-uniques
returns-clause-uniques c =
    let s = scope_view c.args.scope in
    IfOk-weaker c.uniques_misfits.result _ _
    (λ v h. h ∙ ap (map (unique_of s)) c.items_behind-entries.ensures ∙ ap (λ o. map (unique_of s) (entries_or_none (option_map (λ f. view f.now) o))) (sym c.in-Some.is)) c.uniques_misfits.ensures.uniques
