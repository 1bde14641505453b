-- A source and a sink over real streams, as contracts see them.
use Rattle.std.specs.Prelude.{ℕ}

-- the stream below, and the count of faults
pub record StreamState (S : Type 0) : Type 0 where
  pub stream : S
  pub faults : ℕ
