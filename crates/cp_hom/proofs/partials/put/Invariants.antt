use Rattle.std.proofs.Common.{◌≡◌, ℕ, length}
use Rattle.cp_model.specs.Homomorphism.{strand_in}
use Rattle.cp_hom.proofs.partials.put.Given as goal

-- the numbers that were put at their own places change nothing
abbrev pub invariant-loop-number : goal.invariant-loop-number
invariant-loop-number l = (length l.strands.items ≡ l.number) × ((s : ℕ) → strand_in l.strands.items s ≡ strand_in l.fn.strands.items s)
