-- What every skeleton of the program keeps.
use Rattle.std.specs.Prelude.{ℕ, ◌<◌, length}
use Rattle.cp_lists.specs.Lists.{IsIn}
use Rattle.cp_model.specs.Strand.{Role, Protocol}
use Rattle.cp_model.specs.Skeleton.{Skeleton, Before, IsSkeleton}
use Rattle.cp_model.specs.declared.node.OrderPair.{OrderPair}
use Rattle.cp_model.specs.Stated.{HasOwnAssumptions}
use Rattle.cp_model.specs.Declares.{DeclaresItsVariables}

-- It is a skeleton over some protocol, whose roles declare their variables: its heights are ones of its roles, its pairs
-- go from a transmission to a reception of another strand, its order has no cycle, each recorded origin is a transmission
-- of a role strand that carries the value, and what its strands' roles give is assumed. And it keeps what it has from its
-- problem: each entry of its map is one of its strands; the assumptions that the problem states itself, as the skeleton has
-- them, are among its assumptions; and of each pair that the problem states itself, as the skeleton has it, the earlier node
-- is before the later one.
pub record IsSound (k : Skeleton) : Type 0 where
  pub protocol : Protocol
  pub declared : (role : Role) → IsIn role protocol.roles → DeclaresItsVariables role
  pub skeleton : IsSkeleton protocol k
  pub in_range : (s : ℕ) → IsIn s k.from_problem.strands → s < length k.strands
  pub assumed : HasOwnAssumptions k
  pub ordered : (p : OrderPair) → IsIn p k.from_problem.pairs → Before k p.earlier p.later
