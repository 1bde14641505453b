use Rattle.std.proofs.Common.{map}
use Rattle.cp_lists.proofs.Fronts.{all-listed}
use Rattle.cp_load.specs.declared.acyclic.Ranked.{Ranked}
use Rattle.cp_load.proofs.NoCycles.{each-permuted}
use Rattle.cp_load.proofs.acyclic.in_order.Goals as goal

pub returns : goal.returns
returns c =
    let view = λ (r : Ranked). r.pair in
    each-permuted view c.loop-number.ranked.items c.sort_by_key.new.self.items c.args.pairs.now c.in_ok-sort_by_key.ensures.permutation
    (all-listed c.args.pairs.now c.loop-number.number c.loop-number-test.false (map view c.loop-number.ranked.items) c.args.pairs.now c.loop-number.invariant)
