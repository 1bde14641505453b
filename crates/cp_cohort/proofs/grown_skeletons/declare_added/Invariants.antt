use Rattle.std.proofs.Common.{drop, length, ◌++◌}
use Rattle.std.specs.List.{filter}
use Rattle.cp_model.specs.Strand.{variables_of_prefix}
use Rattle.cp_model.specs.PrefixVariables.{is_added, declared_variables}
use Rattle.cp_theory.specs.Fresh.{fresh_terms}
use Rattle.cp_cohort.proofs.HigherStrands.{declared_from, IsDeclaredSoFar}
use Rattle.cp_cohort.proofs.grown_skeletons.declare_added.Given as goal

abbrev pub invariant-loop-number : goal.invariant-loop-number
invariant-loop-number l =
    let wanted = is_added (variables_of_prefix l.role l.before) (variables_of_prefix l.role l.height) in
    let ds = l.declaration-items in
    IsDeclaredSoFar wanted l.number (drop l.number l.declaration-items) (fresh_terms (length l.fn.k.variables) (filter wanted (declared_variables 0 ds)))
    (l.fn.k.variables ++ declared_from wanted 0 ds) l.fn.k l.k l.values.items
