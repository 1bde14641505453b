-- The strand that the body of a handle stands for, and what it holds of an instance.
use Rattle.std.specs.Prelude.{◌≡◌, IfSome}
use Rattle.cp_model.specs.Skeleton.{skeleton_trace, SkeletonStrand, listener}
use Rattle.cp_strand.specs.Givens.{IsGivenBy}
use Rattle.cp_strand.specs.View.{instance_view}
use Rattle.cp_strand.specs.declared.strand.Body.{Body}
use Rattle.cp_strand.specs.declared.strand.Body.TheVariants.{Instance, Listener}

abbrev pub strand_of_body : Body → SkeletonStrand
strand_of_body (Instance i held) = instance_view i
strand_of_body (Listener t) = listener t

-- What is held of an instance are its own events and what its role gives it.
abbrev pub HoldsItsOwn : Body → Type 0
HoldsItsOwn (Instance i held) = IfSome held (λ h. (h.events.items ≡ skeleton_trace (instance_view i)) × IsGivenBy (instance_view i) h.given)
HoldsItsOwn (Listener t) = Unit {0}
