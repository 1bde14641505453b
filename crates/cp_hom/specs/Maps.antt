-- The maps between skeletons that the program finds, as plain data.
use Rattle.cp_model.specs.Homomorphism.{SkeletonMap, strand_in}
use Rattle.cp_unify.specs.Bindings.{as_substitution}
use Rattle.cp_hom.specs.declared.strand_map.Map.{Map}

-- The map that sends strand number s to the number at place s, or to itself past the end, and a variable to the term that it
-- is bound to, or to itself.
abbrev pub map_view : Map → SkeletonMap
map_view m = record { strands = strand_in m.strands.items; terms = as_substitution m.values }
