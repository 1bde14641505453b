-- What skeletons keep when they are changed.
use Rattle.std.specs.Prelude.{ℕ, ◌≤◌, ◌∷◌, List}
use Rattle.cp_model.specs.declared.node.Node.{Node}
use Rattle.cp_model.specs.declared.node.OrderPair.{OrderPair}
use Rattle.cp_model.specs.Term.{Term}
use Rattle.cp_model.specs.Strand.{Role}
use Rattle.cp_model.specs.Skeleton.{Skeleton, Before}
use Rattle.cp_model.specs.Extensions.{AddsListener, AddsStrand, Extends}
use Rattle.cp_skel.specs.Ordered.{ordered_by, DiffersInOrder}

-- A skeleton of which P holds goes on to be one when a listener or an instance is added, when an instance grows, when a
-- pair is added, and with any table of variables and any order in which what was before a node still is.
pub record KeptByChanges (P : Skeleton → Type 0) : Type 0 where
  pub listener : (old new : Skeleton) (t : Term) → AddsListener t old new → P old → P new
  pub strand : (old new : Skeleton) (role : Role) (height : ℕ) (values : List Term) → AddsStrand role height values old new → P old → P new
  pub extended : (old new : Skeleton) (s height : ℕ) (values : List Term) → (x : Extends s height values old new) → x.before ≤ height → P old → P new
  pub pair : (k : Skeleton) (p : OrderPair) → P k → P (ordered_by k (p ∷ k.pairs))
  pub reordered : (old new : Skeleton) → DiffersInOrder old new → ((x y : Node) → Before old x y → Before new x y) → P old → P new
