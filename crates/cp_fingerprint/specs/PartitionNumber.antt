-- A number that is made of a partition, so that two partitions mostly differ by it.
use Rattle.std.specs.Prelude.{◌+◌, ◌*◌, ◌%◌, ◌^◌, ℕ, List, [], ◌∷◌, Option, Some, None}

abbrev pub mixed : ℕ → ℕ → ℕ
mixed n entry = ((n * 1000003) % 2 ^ 64 + entry) % 2 ^ 64

-- The number of a list of entries; 0 where one is none.
abbrev pub partition_number : ℕ → List (Option ℕ) → ℕ
partition_number n [] = n
partition_number n (None ∷ entries) = 0
partition_number n (Some entry ∷ entries) = partition_number (mixed n entry) entries
