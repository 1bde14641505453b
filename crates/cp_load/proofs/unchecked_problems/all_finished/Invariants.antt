use Rattle.std.proofs.Common.{◌≡◌, map}
use Rattle.cp_load.specs.UncheckedProblems.{unchecked_entry_view}
use Rattle.cp_load.specs.Inputs.{entry_view}
use Rattle.cp_load.proofs.unchecked_problems.all_finished.Given as goal

abbrev pub invariant-loop-unchecked : goal.invariant-loop-unchecked
invariant-loop-unchecked l = map entry_view l.entries.items ≡ map unchecked_entry_view l.yielded
