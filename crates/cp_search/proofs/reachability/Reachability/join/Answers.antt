use Rattle.std.proofs.Common.{◌↔◌, List, Vec, ℕ, subst}
use Rattle.std.specs.Prelude.{IsTrue}
use Rattle.cp_lists.specs.Lists.{IsIn}
use Rattle.cp_model.proofs.CarriedParts.{not_both}
use Rattle.cp_search.specs.Reachability.{row_at}
use Rattle.cp_search.proofs.reachability.Reachability.join.Goals as goal

pub put-requires-clause-apart : goal.put-requires-clause-apart
put-requires-clause-apart c = λ h.
    let listed = subst (λ (rows : List (Vec ℕ _)). IsTrue c.is_in_row.result ↔ IsIn c.args.from (row_at rows c.args.to)) c.deref.ensures.value c.is_in_row.ensures in
    not_both c.if-is_in_row.false (listed.1 ((c.requires.transposed c.args.from c.args.to).0 h))

pub put-requires-2-clause-apart : goal.put-requires-2-clause-apart
put-requires-2-clause-apart c = λ h.
    let listed = subst (λ (rows : List (Vec ℕ _)). IsTrue c.is_in_row.result ↔ IsIn c.args.from (row_at rows c.args.to)) c.deref.ensures.value c.is_in_row.ensures in
    not_both c.if-is_in_row.false (listed.1 h)
