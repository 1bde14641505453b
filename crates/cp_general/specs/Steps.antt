-- What a step of generalising takes away: a strand, or a covering pair of the order.
use Rattle.std.specs.Prelude.{◌≡◌, ◌≢◌, ◌↔◌, ◌⊎◌, ◌<◌, ℕ, length}
use Rattle.std.specs.List.{remove}
use Rattle.cp_lists.specs.Lists.{IsIn}
use Rattle.cp_model.specs.declared.node.Node.{Node}
use Rattle.cp_model.specs.declared.node.OrderPair.{OrderPair}
use Rattle.cp_model.specs.Skeleton.{Skeleton, Before, IsOrderPair}
use Rattle.cp_skel.specs.Deletion.{KeepsOrderOfOthers, ForgetsAssumptions, KeepsFromProblem}
use Rattle.cp_derive.specs.Unrealised.{IsListedBefore}
use Rattle.cp_normal.specs.Findings.{IsAddedPair}

-- h is k without strand number d, which is the image of no strand of the problem. The other strands keep their order, and their
-- nodes the order among them; the assumptions that strand d alone gave are forgotten. All variables stay declared.
pub record Deletes (d : ℕ) (k h : Skeleton) : Type 0 where
  pub within : d < length k.strands
  pub no_image : IsIn d k.from_problem.strands → ⊥
  pub variables : h.variables ≡ k.variables
  pub strands : h.strands ≡ remove k.strands d
  pub pairs : (p : OrderPair) → IsIn p h.pairs → IsOrderPair h p
  pub order : KeepsOrderOfOthers d k h
  pub assumptions : ForgetsAssumptions d k h.assumptions
  pub from_problem : KeepsFromProblem d k.from_problem h.from_problem

-- The pair goes from a transmission to a reception of another strand, and the one is before the other.
pub record IsPairOfOrder (k : Skeleton) (p : OrderPair) : Type 0 where
  pub pair : IsOrderPair k p
  pub ordered : Before k p.earlier p.later

-- Besides, no node is between the two.
pub record IsCoveringPair (k : Skeleton) (p : OrderPair) : Type 0 where
  pub of_order : IsPairOfOrder k p
  pub none_between : (n : Node) → Before k p.earlier n → Before k n p.later → ⊥

-- h is k without the covering pair p, which neither the problem states nor a unique value adds. All other pairs of the order from
-- a transmission to a reception of another strand stay; and what the problem states to be before something still is.
pub record Weakens (p : OrderPair) (k h : Skeleton) : Type 0 where
  pub covering : IsCoveringPair k p
  pub not_own : IsIn p k.from_problem.pairs → ⊥
  pub not_added : IsAddedPair k p → ⊥
  pub same : h ≡ record k { pairs = h.pairs }
  pub pairs : (q : OrderPair) → IsIn q h.pairs ↔ (IsPairOfOrder k q × (q ≢ p))
  pub stated : (q : OrderPair) → IsIn q k.from_problem.pairs → Before h q.earlier q.later

-- Pairs are listed by their first nodes, and then by their second.
abbrev pub IsLowerPair : OrderPair → OrderPair → Type 0
IsLowerPair q p = IsListedBefore q.earlier p.earlier ⊎ ((q.earlier ≡ p.earlier) × IsListedBefore q.later p.later)
