-- When a skeleton is over a protocol.
use Rattle.std.specs.Prelude.{◌≡◌, ℕ, Some, List}
use Rattle.cp_lists.specs.Lists.{item_at, IsIn}
use Rattle.cp_model.specs.Bindings.{Binding}
use Rattle.cp_model.specs.Strand.{Role, Protocol}
use Rattle.cp_model.specs.Skeleton.{Skeleton, instance}

-- The role of each instance is one of the protocol's.
pub record IsOver (protocol : Protocol) (k : Skeleton) : Type 0 where
  pub of_role : (s : ℕ) (role : Role) (height : ℕ) (terms : List Binding) → item_at k.strands s ≡ Some (instance role height terms) → IsIn role protocol.roles
