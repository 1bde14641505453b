-- Lists of skeletons that leave out no standing of another.
use Rattle.std.specs.Prelude.{◌≡◌, ◌<◌, ℕ, List, Some, map, length}
use Rattle.cp_lists.specs.Lists.{item_at, IsIn}
use Rattle.cp_model.specs.Term.{after, AgreeOn, apply_to}
use Rattle.cp_model.specs.Strand.{Protocol}
use Rattle.cp_model.specs.Bundle.{Bundle, IsBundle}
use Rattle.cp_model.specs.Skeleton.{SkeletonStrand, Skeleton}
use Rattle.cp_model.specs.Standing.{Standing, StandsIn, StandsApart}
use Rattle.cp_model.specs.Homomorphism.{SkeletonMap}
use Rattle.cp_theory.specs.Critical.{used_variables}

-- The standing h of k is the standing g of l after the map f: each strand of k goes where its image goes, each variable of k
-- and of its map from the problem has the value of its term, and l's map from the problem is k's after f.
pub record GoesThrough (k : Skeleton) (h : Standing) (f : SkeletonMap) (l : Skeleton) (g : Standing) : Type 0 where
  pub nodes : (s : ℕ) (strand : SkeletonStrand) → item_at k.strands s ≡ Some strand → h.nodes s ≡ g.nodes (f.strands s)
  pub values : AgreeOn (used_variables k) h.values (after g.values f.terms)
  pub problem_strands : map f.strands k.from_problem.strands ≡ l.from_problem.strands
  pub problem_values : map (apply_to f.terms) k.from_problem.values ≡ l.from_problem.values

-- One of the skeletons stands apart in the bundle by a standing through which that of k goes, each strand staying where it is.
pub record GoesOn (ks : List Skeleton) (k : Skeleton) (b : Bundle) (h : Standing) : Type 0 where
  pub skeleton : Skeleton
  pub listed : IsIn skeleton ks
  pub standing : Standing
  pub stands : StandsIn skeleton b standing
  pub apart : StandsApart skeleton standing
  pub along : SkeletonMap
  pub in_place : (s : ℕ) → along.strands s ≡ s
  pub through : GoesThrough k h along skeleton standing

-- Whenever k stands apart in a bundle over the protocol, one of the skeletons stands apart in it by a standing through which
-- that of k goes.
abbrev pub IsComplete : Protocol → Skeleton → List Skeleton → Type 0
IsComplete protocol k ks = (b : Bundle) (h : Standing) → IsBundle protocol b → StandsIn k b h → StandsApart k h → GoesOn ks k b h

-- Each entry of the map from the problem is a strand of the skeleton.
abbrev pub IsMapInRange : Skeleton → Type 0
IsMapInRange k = (s : ℕ) → IsIn s k.from_problem.strands → s < length k.strands
