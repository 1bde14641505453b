-- The parts of a skeleton whose strands are merged, as the program keeps them before it makes the skeleton.
use Rattle.std.specs.Prelude.{List}
use Rattle.cp_model.specs.declared.variable.Declaration.{Declaration}
use Rattle.cp_model.specs.Skeleton.{Skeleton}
use Rattle.cp_model.specs.Given.{listed}
use Rattle.cp_collapse.specs.declared.merged_skeletons.Parts.{Parts}

-- The skeleton of these variables and parts.
abbrev pub parts_view : List Declaration → Parts → Skeleton
parts_view variables m = record { variables = variables; strands = m.strands.items; pairs = m.pairs.items; assumptions = m.assumptions; from_problem = m.from_problem }

-- The skeleton with its assumptions in the order of a report, each once.
abbrev pub with_listed : Skeleton → Skeleton
with_listed k = record k { assumptions = listed k }
