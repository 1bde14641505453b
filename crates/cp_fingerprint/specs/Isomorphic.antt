-- Isomorphic skeletons.
use Rattle.cp_model.specs.Skeleton.{Skeleton}
use Rattle.cp_model.specs.Homomorphism.{Embeds}

-- Each embeds in the other.
abbrev pub IsIsomorphic : Skeleton → Skeleton → Type 0
IsIsomorphic a b = Embeds a b × Embeds b a
