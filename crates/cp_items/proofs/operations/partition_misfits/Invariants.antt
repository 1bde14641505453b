use Rattle.std.proofs.Common.{◌≡◌, ℕ, ◌+◌, map, drop}
use Rattle.cp_sexpr.specs.View.{view}
use Rattle.cp_language.specs.Problems.{number_of}
use Rattle.cp_report.specs.Misfits.{entries_misfits}
use Rattle.cp_spelled.specs.FirstMisfit.{first_onto}
use Rattle.cp_items.specs.Parts.{blocks_of}
use Rattle.cp_items.proofs.operations.partition_misfits.Given as goal

abbrev pub invariant-loop-number : goal.invariant-loop-number
invariant-loop-number l =
    (left : ℕ) × (l.number + left ≡ l.strands)
    × (first_onto l.first (entries_misfits (blocks_of (map number_of (map view l.items)) l.number left) l.place (map view (drop l.number l.items)))
    ≡ first_onto l.initial.first (entries_misfits (blocks_of (map number_of (map view l.items)) 0 l.strands) l.place (map view l.items)))
