use Rattle.std.proofs.Common.{[], map, sym, ap, ◌∙◌}
use Rattle.std.specs.Prelude.{option_map}
use Rattle.std.proofs.lemmas.Result.{IfOk-weaker}
use Rattle.cp_sexpr.specs.View.{view}
use Rattle.cp_report.specs.Heads.{entries_or_none}
use Rattle.cp_report.specs.Spelled.{atom_in}
use Rattle.cp_report.specs.Skeletons.{atoms_misfits}
use Rattle.cp_spelled.specs.Views.{scope_view}
use Rattle.cp_stated.proofs.Entered.{all-asked}
use Rattle.cp_stated.proofs.Results.{when_ok}
use Rattle.cp_stated.proofs.values.optional_atoms_misfits.Goals as goal

pub returns-clause-misfits : goal.returns-clause-misfits
returns-clause-misfits c =
    when_ok c.atoms_misfits.result
    (λ h. all-asked (atoms_misfits (scope_view c.args.scope) []) (view c.in-Some.item.now) (option_map (λ f. view f.now) c.args.item) c.place_of.result (map view c.items_behind-entries.result.now)
    c.args.first.now c.lacking.new.first c.atoms_misfits.new.first (sym (ap (option_map (λ f. view f.now)) c.in-Some.is)) c.place_of.ensures c.items_behind-entries.ensures c.lacking.ensures h) c.atoms_misfits.ensures.misfits

pub returns-clause-atoms : goal.returns-clause-atoms
returns-clause-atoms c =
    let s = scope_view c.args.scope in
    IfOk-weaker c.atoms_misfits.result _ _
    (λ v h. h ∙ ap (map (atom_in s)) c.items_behind-entries.ensures ∙ ap (λ o. map (atom_in s) (entries_or_none (option_map (λ f. view f.now) o))) (sym c.in-Some.is)) c.atoms_misfits.ensures.atoms
