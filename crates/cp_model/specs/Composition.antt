-- A homomorphism followed by a standing.
use Rattle.cp_model.specs.Term.{after}
use Rattle.cp_model.specs.Standing.{Standing}
use Rattle.cp_model.specs.Homomorphism.{SkeletonMap}

-- Each strand goes where its image goes, and each variable has the value of its term.
abbrev pub through : SkeletonMap → Standing → Standing
through f h = record { nodes = λ s. h.nodes (f.strands s); values = after h.values f.terms }
