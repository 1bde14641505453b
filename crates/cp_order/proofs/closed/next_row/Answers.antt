use Rattle.std.proofs.Common.{sym, ap, ◌∙◌}
use Rattle.std.proofs.lemmas.Result.{MatchResult-weaker}
use Rattle.cp_order.specs.PredecessorNodes.{tops_of}
use Rattle.cp_order.proofs.LookedUp.{row_shared}
use Rattle.cp_order.proofs.closed.next_row.Goals as goal

pub returns-then-not-some_ends_at : goal.returns-then-not-some_ends_at
returns-then-not-some_ends_at c =
    MatchResult-weaker c.clone.result c.clone.ensures.cases
    (λ row same. row_shared c.args.pairs.now c.args.strand (λ r. tops_of r.value) c.args.rows.now c.requires c.in-Some.row.now (tops_of row.value) c.in-Some.ensures.value
    (sym c.some_ends_at.ensures ∙ c.if-not-some_ends_at.true) (ap tops_of same))
    (λ e h. tt)
