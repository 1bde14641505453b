use Rattle.std.proofs.Common.{rules, map, ap, ◌∙◌}
use Rattle.std.proofs.lemmas.Result.{IfOk-weaker}
use Rattle.cp_sexpr.specs.View.{view}
use Rattle.cp_report.specs.Heads.{entries_under}
use Rattle.cp_report.specs.Spelled.{Scope, atom_in}
use Rattle.cp_spelled.specs.Views.{scope_view}
use Rattle.cp_lists.proofs.Collected.{made_from_slice}
use Rattle.cp_stated.proofs.values.atoms_under.Goals as goal

pub returns : goal.returns
returns c =
    let make = atom_in (scope_view c.args.scope) in
    IfOk-weaker c.try_collect.result _ _
    (λ v e. e ∙ ap (map make) c.entries_under-entries.ensures ∙ ap (λ (s : Scope). map (atom_in s) (entries_under c.args.word.now (map view c.args.items.now))) c.requires)
    (made_from_slice make view c.entries_under-entries.result.now c.try_collect.result (λ x y q k. search rules) c.try_collect.ensures.runs c.map.ensures.runs c.iter.ensures.runs c.iter.ensures.rest)
