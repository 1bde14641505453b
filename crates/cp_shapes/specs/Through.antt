-- Standings that go through a candidate.
use Rattle.std.specs.Prelude.{◌≡◌, ℕ, List, Some}
use Rattle.cp_lists.specs.Lists.{item_at}
use Rattle.cp_model.specs.Bundle.{Bundle}
use Rattle.cp_model.specs.Skeleton.{Skeleton}
use Rattle.cp_model.specs.Standing.{Standing, StandsIn, StandsApart}
use Rattle.cp_model.specs.Homomorphism.{FactorsThrough}

-- The problem's standing factors through a standing apart of skeleton number i.
pub record FactorsThroughNumber (problem : Skeleton) (ks : List Skeleton) (b : Bundle) (h : Standing) (i : ℕ) : Type 0 where
  pub skeleton : Skeleton
  pub at : item_at ks i ≡ Some skeleton
  pub standing : Standing
  pub stands : StandsIn skeleton b standing
  pub apart : StandsApart skeleton standing
  pub factors : FactorsThrough problem h skeleton standing
