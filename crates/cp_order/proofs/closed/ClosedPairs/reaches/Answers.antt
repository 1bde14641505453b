use Rattle.std.proofs.Common.{[], false, refl, map, sym, ap, ◌∙◌}
use Rattle.cp_order.specs.PredecessorNodes.{tops_of}
use Rattle.cp_order.specs.Rows.{rows_by, shown}
use Rattle.cp_order.proofs.LookedUp.{asked_on_strand, asked_in_rows}
use Rattle.cp_order.proofs.closed.ClosedPairs.reaches.Goals as goal

pub returns-then-is_at_or_before : goal.returns-then-is_at_or_before
returns-then-is_at_or_before c =
    asked_on_strand c.args.self.now c.args.x c.args.y (sym c.is_at_or_before.ensures ∙ c.if-is_at_or_before.true)

pub returns-in-Some : goal.returns-in-Some
returns-in-Some c =
    asked_in_rows c.self.inside.pairs.items c.args.self.now (rows_by c.self.inside.rows (λ v. map (λ r. tops_of r.value) v.items)) c.args.x c.args.y c.self.view_is c.self.invariant.0 c.self.invariant.1
    (map (λ r. tops_of r.value) c.deref.result.now) c.is_in_rows.result
    (sym c.is_at_or_before.ensures ∙ c.if-is_at_or_before.false)
    (ap (λ o. shown o (λ v. map (λ r. tops_of r.value) v.items)) (sym c.in-Some.ensures.value) ∙ sym (ap (map (λ r. tops_of r.value)) c.deref.ensures.value))
    c.is_in_rows.ensures

pub returns-in-None : goal.returns-in-None
returns-in-None c =
    asked_in_rows c.self.inside.pairs.items c.args.self.now (rows_by c.self.inside.rows (λ v. map (λ r. tops_of r.value) v.items)) c.args.x c.args.y c.self.view_is c.self.invariant.0 c.self.invariant.1
    [] false (sym c.is_at_or_before.ensures ∙ c.if-is_at_or_before.false) (ap (λ o. shown o (λ v. map (λ r. tops_of r.value) v.items)) (sym c.in-None.ensures.value)) refl
