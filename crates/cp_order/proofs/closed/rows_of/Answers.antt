use Rattle.std.proofs.Common.{map, sym, ◌∙◌}
use Rattle.std.specs.Prelude.{nat_eq}
use Rattle.std.specs.HashMap.{get}
use Rattle.cp_order.specs.PredecessorNodes.{tops_of}
use Rattle.cp_order.proofs.LookedUp.{rows_kept, rows_put, rows_of_ends, rows_all}
use Rattle.cp_order.proofs.closed.rows_of.Goals as goal

pub loop-pair-preserved-then-contains_key : goal.loop-pair-preserved-then-contains_key
loop-pair-preserved-then-contains_key c =
    rows_kept c.args.pairs.now (λ v. map (λ r. tops_of r.value) v.items) c.loop-pair.pair-index _ c.loop-pair-test.true (λ s. get nat_eq c.loop-pair.rows s)
    (sym c.contains_key.ensures ∙ c.if-contains_key.true) c.loop-pair.invariant

pub loop-pair-preserved : goal.loop-pair-preserved
loop-pair-preserved c =
    rows_put c.args.pairs.now (λ v. map (λ r. tops_of r.value) v.items) c.loop-pair.pair-index _ c.loop-pair-test.true (λ s. get nat_eq c.loop-pair.rows s) (λ s. get nat_eq c.insert.new.self s)
    c.in_ok-on_strand.on_strand c.in_ok-insert.ensures.updates.0
    (rows_of_ends c.args.pairs.now _ c.deref.result.now (map (λ r. tops_of r.value) c.in_ok-on_strand.on_strand.items) (c.deref.ensures.value ∙ c.in_ok-ends.ensures) c.in_ok-on_strand.ensures) c.loop-pair.invariant

pub returns : goal.returns
returns c =
    rows_all c.args.pairs.now (λ v. map (λ r. tops_of r.value) v.items) (λ s. get nat_eq c.loop-pair.rows s) c.loop-pair.pair-index c.loop-pair-test.false c.loop-pair.invariant
