use Rattle.std.proofs.Common.{◌≡◌, drop}
use Rattle.std.specs.List.{filter}
use Rattle.cp_model.specs.Strand.{variables_of_trace}
use Rattle.cp_model.specs.PrefixVariables.{declared_variables, is_added}
use Rattle.cp_input_tests.proofs.copies.adds_none.Given as goal

abbrev pub invariant-loop-number : goal.invariant-loop-number
invariant-loop-number l =
    let added = is_added (variables_of_trace l.earlier) (variables_of_trace l.prefix) in
    filter added (declared_variables l.number (drop l.number l.declaration-items)) ≡ filter added (declared_variables 0 l.declaration-items)
