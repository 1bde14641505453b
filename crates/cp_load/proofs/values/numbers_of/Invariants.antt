use Rattle.std.proofs.Common.{◌≡◌, ◌++◌, drop}
use Rattle.cp_model.specs.Problem.{numbers_from}
use Rattle.cp_load.proofs.values.numbers_of.Given as goal

abbrev pub invariant-loop-number : goal.invariant-loop-number
invariant-loop-number l = l.numbers.items ++ numbers_from l.number (drop l.number l.strands) ≡ numbers_from 0 l.strands
