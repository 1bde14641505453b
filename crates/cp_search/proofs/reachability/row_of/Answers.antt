use Rattle.std.proofs.Common.{◌<◌, ℕ, length, Option, IfSome, ◌∙◌, sym, ap, subst}
use Rattle.cp_search.specs.Reachability.{given_row}
use Rattle.cp_search.proofs.JoinedRows.{read_row}
use Rattle.cp_search.proofs.reachability.row_of.Goals as goal

pub returns-in-Some : goal.returns-in-Some
returns-in-Some c =
    let rows = c.args.rows.now in
    let within : c.in-Some.row < length rows = subst (λ (o : Option ℕ). IfSome o (λ n. n < length rows)) c.in-Some.is c.requires in
    c.deref.ensures.value ∙ read_row rows c.in-Some.row c.index-rows-row.result within c.index-rows-row.is ∙ ap (given_row rows) (sym c.in-Some.is)
