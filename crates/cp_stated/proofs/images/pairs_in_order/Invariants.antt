use Rattle.std.proofs.Common.{◌≡◌, ◌++◌, map, drop}
use Rattle.std.specs.List.{filter}
use Rattle.cp_model.specs.Stated.{pair_image}
use Rattle.cp_report.specs.Skeletons.{map_by, is_in_order}
use Rattle.cp_stated.proofs.images.pairs_in_order.Given as goal

abbrev pub invariant-loop-pair : goal.invariant-loop-pair
invariant-loop-pair l =
    l.images.items ++ filter (is_in_order l.strands l.pairs) (map (pair_image (map_by l.to_strands l.values)) (drop l.pair-index l.own))
    ≡ filter (is_in_order l.strands l.pairs) (map (pair_image (map_by l.to_strands l.values)) l.own)
