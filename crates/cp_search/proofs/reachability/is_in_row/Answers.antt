use Rattle.std.proofs.Common.{◌↔◌, List, ℕ, subst}
use Rattle.std.specs.Prelude.{IsTrue}
use Rattle.cp_lists.specs.Lists.{IsIn}
use Rattle.cp_search.proofs.JoinedRows.{is_listed}
use Rattle.cp_search.proofs.reachability.is_in_row.Goals as goal

pub returns : goal.returns
returns c =
    subst (λ (ns : List ℕ). IsTrue c.contains.result ↔ IsIn c.args.number ns) c.row_of.ensures
    (is_listed c.row_of.result.now c.args.number c.contains.result c.contains.ensures.value)
