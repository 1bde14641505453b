-- Where a map from a problem takes the problem's strands.
use Rattle.std.proofs.Common.{◌≡◌, ℕ, ◌+◌, ◌<◌, List, Some, length, sym, ap, ◌∙◌, subst, arith}
use Rattle.cp_lists.specs.Lists.{item_at, IsIn}
use Rattle.cp_lists.proofs.Items.{at_place, map_of_item}
use Rattle.cp_model.specs.declared.variable.Declaration.{Declaration}
use Rattle.cp_model.specs.Skeleton.{Skeleton}
use Rattle.cp_model.specs.Homomorphism.{map_from_problem, CarriesHomomorphism}
use Rattle.cp_model.specs.PointOfView.{IsPointOfView}
use Rattle.cp_model.proofs.StatedItself.{numbers_below}
use Rattle.cp_collapse.proofs.Lowest.{numbers_at}

module _ (variables : List Declaration) (problem : Skeleton) (own : IsPointOfView variables problem) where
  pub strand_below : (s : ℕ) → IsIn s problem.from_problem.strands → s < length problem.strands
  strand_below s i = numbers_below problem.strands s (subst (IsIn s) own.strands i)

  -- The map has an entry for each of the strands.
  module _ (k : Skeleton) (carries : CarriesHomomorphism problem k) (s : ℕ) (below : s < length problem.strands) where
    pub entry_at : item_at k.from_problem.strands s ≡ Some ((map_from_problem k).strands s)
    entry_at =
        let z : 0 + s ≡ s = omega arith in
        let at : item_at problem.from_problem.strands s ≡ Some s = ap (λ (ns : List ℕ). item_at ns s) own.strands ∙ numbers_at 0 problem.strands s below ∙ ap Some z in
        ap (λ (ns : List ℕ). item_at ns s) (sym carries.strands) ∙ map_of_item (map_from_problem k).strands problem.from_problem.strands s s at

    pub entry_in : IsIn ((map_from_problem k).strands s) k.from_problem.strands
    entry_in = at_place k.from_problem.strands s ((map_from_problem k).strands s) entry_at
