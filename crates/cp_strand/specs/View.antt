-- What instances of the program stand for.
use Rattle.std.specs.Prelude.{ℕ, List}
use Rattle.cp_model.specs.Term.{Term}
use Rattle.cp_model.specs.Bindings.{bindings_of}
use Rattle.cp_model.specs.Strand.{Role}
use Rattle.cp_model.specs.Skeleton.{SkeletonStrand, instance}

-- An instance of a role, of some height, with terms for the role's variables by their numbers.
pub record InstanceData : Type 0 where
  pub role : Role
  pub height : ℕ
  pub values : List Term

-- The strand that is this instance.
abbrev pub instance_view : InstanceData → SkeletonStrand
instance_view i = instance i.role i.height (bindings_of i.values)
