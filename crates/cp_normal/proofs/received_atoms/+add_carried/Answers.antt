use Rattle.std.proofs.Common.{ap, arith}
use Rattle.cp_term.specs.Size.{term_size}
use Rattle.cp_normal.proofs.Heard.{pair_step}
use Rattle.cp_normal.proofs.received_atoms.+add_carried.Goals as goal

pub rest-preserved-in-Pair : goal.rest-preserved-in-Pair
rest-preserved-in-Pair t c =
    let size = ap term_size c.in-Pair.ensures in (
      pair_step c.rest.atoms.items _ _ c.rest.rest.now c.in-Pair.left.now c.in-Pair.right.now c.in-Pair.ensures c.in_ok-add_carried-in-Pair.ensures c.rest.invariant.0,
      omega (arith, size, c.rest.invariant.1),
    )
