-- The map from a problem, by what holds its parts.
use Rattle.cp_model.specs.Skeleton.{FromProblem}
use Rattle.cp_skel.specs.declared.from_problem.Parts.{Parts}
use Rattle.cp_skel.specs.declared.from_problem.Held.{Held}
use Rattle.cp_skel.specs.declared.from_problem.Held.TheVariants.{Shared, Own}

abbrev pub map_of_parts : Parts → FromProblem
map_of_parts p = record { strands = p.strands; values = p.values; assumptions = p.assumptions; pairs = p.pairs }

abbrev pub held_map : Held → FromProblem
held_map (Shared parts) = map_of_parts parts.value
held_map (Own parts) = map_of_parts parts
