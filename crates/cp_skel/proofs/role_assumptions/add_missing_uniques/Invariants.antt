use Rattle.std.proofs.Common.{◌≡◌, ◌++◌, map, drop}
use Rattle.cp_model.specs.Given.{uniques_onto}
use Rattle.cp_strand.specs.Givens.{unique_on}
use Rattle.cp_skel.proofs.role_assumptions.add_missing_uniques.Given as goal

abbrev pub invariant-loop-unique : goal.invariant-loop-unique
invariant-loop-unique l =
    uniques_onto (l.old ++ l.more.items) (map (unique_on l.strand) (drop l.unique-index l.given)) ≡ uniques_onto (l.old ++ l.initial.more.items) (map (unique_on l.strand) l.given)
