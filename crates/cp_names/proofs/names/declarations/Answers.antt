use Rattle.std.proofs.Common.{◌≡◌, ◌+◌, ◌++◌, drop, sym, ap, ◌∙◌}
use Rattle.std.specs.Prelude.{slice_get, Some}
use Rattle.cp_model.specs.Data.{roots, sorts}
use Rattle.cp_names.proofs.Tables.{entry_more}
use Rattle.cp_names.proofs.names.declarations.Goals as goal

pub loop-number-preserved : goal.loop-number-preserved
loop-number-preserved c =
    let t = c.args.table.now in
    let n = c.loop-number.number in
    let before = c.loop-number.declarations.items in
    let root : slice_get (roots t) n ≡ Some c.in_ok-identifier.identifier = ap (slice_get (roots t)) (sym c.numbered-id.ensures) ∙ c.root.ensures ∙ ap Some (sym c.in_ok-identifier.ensures) in
    let sort : slice_get (sorts t) n ≡ Some c.sort-sort.result = ap (slice_get (sorts t)) (sym c.numbered-id.ensures) ∙ c.sort-sort.ensures in
    ap (λ ds. ds ++ drop (n + 1) t) c.in_ok-push.ensures.items
    ∙ entry_more t n c.in_ok-identifier.identifier c.sort-sort.result before t root sort c.loop-number.invariant
