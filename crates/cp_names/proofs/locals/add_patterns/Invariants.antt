use Rattle.std.proofs.Common.{◌≡◌, ◌++◌, drop}
use Rattle.cp_language.specs.Report.{variables_of_patterns}
use Rattle.cp_names.proofs.locals.add_patterns.Given as goal

abbrev pub invariant-loop-pattern : goal.invariant-loop-pattern
invariant-loop-pattern l =
    l.out.items ++ variables_of_patterns (drop l.pattern-index l.patterns) ≡ l.fn.out.items ++ variables_of_patterns l.patterns
