use Rattle.std.proofs.Common.{◌↔◌, List, Vec, ℕ, subst}
use Rattle.std.specs.Prelude.{IsTrue}
use Rattle.cp_lists.specs.Lists.{IsIn}
use Rattle.cp_search.specs.Reachability.{given_row}
use Rattle.cp_search.proofs.KeptReachability.{row_tells}
use Rattle.cp_search.proofs.reachability.Reachability.leads.Goals as goal

pub returns : goal.returns
returns c = λ ms kept.
    row_tells c.args.self.now ms kept c.args.from c.args.to c.is_in_row.result
    (subst (λ (rows : List (Vec ℕ _)). IsTrue c.is_in_row.result ↔ IsIn c.args.from (given_row rows c.args.to)) c.deref.ensures.value c.is_in_row.ensures)
