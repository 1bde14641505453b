-- The map from a problem, by the problem's strands and its variables under their names in a report.
use Rattle.std.specs.Prelude.{ℕ, List, [], ◌∷◌, ◌++◌, map}
use Rattle.std.specs.List.{filter}
use Rattle.cp_base.specs.declared.place.Place.{Place}
use Rattle.cp_model.specs.Term.{Term}
use Rattle.cp_model.specs.declared.variable.Declaration.{Declaration}
use Rattle.cp_model.specs.Skeleton.{SkeletonStrand, Assumptions, FromProblem}
use Rattle.cp_model.specs.declared.node.OrderPair.{OrderPair}
use Rattle.cp_model.specs.Stated.{pair_image}
use Rattle.cp_sexpr.specs.Syntax.{Form}
use Rattle.cp_report.specs.Misfits.{misfit, entries_misfits, list_misfits}
use Rattle.cp_report.specs.Spelled.{Scope}
use Rattle.cp_report.specs.Skeletons.{strand_number_misfits, mapping_misfits, values_mapped, map_by, images_among, is_in_order}

-- A strand for each of the problem's.
abbrev pub strands_of_problem_misfits : List SkeletonStrand → List SkeletonStrand → Place → List Form → List Place
strands_of_problem_misfits problem strands at fs = entries_misfits (map (λ k. strand_number_misfits strands) problem) at fs

-- First a list with a strand for each of the problem's, and then a maplet for each of its variables.
abbrev pub map_misfits_to : List SkeletonStrand → List Declaration → Scope → List SkeletonStrand → Place → List Form → List Place
map_misfits_to problem names s strands at [] = misfit at
map_misfits_to problem names s strands at (f ∷ maplets) =
    list_misfits (strands_of_problem_misfits problem strands) f ++ mapping_misfits s names at maplets

-- The terms that a map gives these variables.
abbrev pub values_by : List Declaration → Scope → List Form → List Term
values_by names s [] = []
values_by names s (f ∷ maplets) = values_mapped s maplets names

-- The way from a problem, of which this is the way to its own skeleton, to these strands, pairs and assumptions.
abbrev pub from_problem_to : FromProblem → List SkeletonStrand → List OrderPair → Assumptions → List ℕ → List Term → FromProblem
from_problem_to own strands pairs listed to_strands values = record {
  strands = to_strands;
  values = values;
  assumptions = images_among listed (map_by to_strands values) own.assumptions;
  pairs = filter (is_in_order strands pairs) (map (pair_image (map_by to_strands values)) own.pairs);
}
