use Rattle.std.proofs.Common.{drop}
use Rattle.cp_hom.specs.Maps.{map_view}
use Rattle.cp_hom.specs.Counterparts.{KeepsPairs}
use Rattle.cp_hom.proofs.kept_order.keeps_pairs.Given as goal

-- where the pairs that are left are kept, all are
abbrev pub invariant-loop-pair : goal.invariant-loop-pair
invariant-loop-pair l = KeepsPairs (drop l.pair-index l.pairs) l.others (map_view l.mapping) →
    KeepsPairs l.pairs l.others (map_view l.mapping)
