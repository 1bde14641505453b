use Rattle.std.proofs.Common.{◌≡◌, ◌++◌, drop}
use Rattle.cp_model.specs.Problem.{variables_of_uniques}
use Rattle.cp_model.specs.Strand.{variables_of_trace}
use Rattle.cp_skel.proofs.used.add_uniques.Given as goal

-- with what is left, all is there
abbrev pub invariant-loop-unique : goal.invariant-loop-unique
invariant-loop-unique l =
    variables_of_trace l.events.items ++ variables_of_uniques (drop l.unique-index l.uniques) ≡ variables_of_trace l.initial.events.items ++ variables_of_uniques l.uniques
