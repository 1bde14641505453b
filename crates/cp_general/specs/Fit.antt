-- The skeletons that generalising leaves.
use Rattle.cp_model.specs.Skeleton.{Skeleton}
use Rattle.cp_model.specs.Realisation.{AllDerivable}
use Rattle.cp_normal.specs.NormalForms.{IsNormal}

-- The skeleton is normal, and all its receptions, listeners' included, are derivable.
pub record IsFit (k : Skeleton) : Type 0 where
  pub normal : IsNormal k
  pub realised : AllDerivable k
