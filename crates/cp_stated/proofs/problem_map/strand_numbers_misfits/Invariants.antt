use Rattle.std.proofs.Common.{◌≡◌, ◌≤◌, length, map, drop}
use Rattle.cp_sexpr.specs.View.{view}
use Rattle.cp_spelled.specs.FirstMisfit.{first_onto}
use Rattle.cp_stated.specs.ProblemMap.{strands_of_problem_misfits}
use Rattle.cp_stated.proofs.problem_map.strand_numbers_misfits.Given as goal

abbrev pub invariant-loop-number : goal.invariant-loop-number
invariant-loop-number l =
    (first_onto l.first (strands_of_problem_misfits (drop l.number l.problem) l.strands l.place (map view (drop l.number l.items)))
    ≡ first_onto l.initial.first (strands_of_problem_misfits l.problem l.strands l.place (map view l.items)))
    × (l.number ≤ length l.items)
