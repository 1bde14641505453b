-- The test of two numbers that tells which node is at or after another of its strand.
use Rattle.std.proofs.Common.{◌≡◌, ℕ, ◌≤◌, true, ◌&&◌, arith}
use Rattle.std.specs.Prelude.{◌==◌, nat_le}
use Rattle.std.proofs.lemmas.Bool.Decides.{nat_tests}

pub within_strand : (s t i j : ℕ) → ((s == t) && nat_le i j) ≡ true → (s ≡ t) × (i ≤ j)
within_strand s t i j h = grind (arith, nat_tests)

pub strand_within : (s t i j : ℕ) → s ≡ t → i ≤ j → ((s == t) && nat_le i j) ≡ true
strand_within s t i j e l = grind (arith, nat_tests)
