-- A source and a sink in memory, as contracts see them.
use Rattle.std.specs.Prelude.{◌≢◌, ◌≤◌, ◌+◌, ◌-◌, ◌^◌, ℕ, List, [], length, min, Option, Some, None, nat_lt, if◌then◌else◌, Contains}

-- a source in memory: the bytes that are left, how many it gives a call at most, the numbers of the calls that fail, the number
-- of the next call, with none past the greatest u64, and the count of faults
pub record MemSourceState : Type 0 where
  pub left : List ℕ
  pub size : ℕ
  pub failing : List ℕ
  pub next : Option ℕ
  pub faults : ℕ

-- a sink in memory: the bytes that it holds, how many it has room for, how many it takes a call at most, and the rest as for a
-- source
pub record MemSinkState : Type 0 where
  pub held : List ℕ
  pub room : ℕ
  pub size : ℕ
  pub failing : List ℕ
  pub next : Option ℕ
  pub faults : ℕ

-- the call with this number is one of those that fail, which a call without a number is not
abbrev pub IsNamed : Option ℕ → List ℕ → Type 0
IsNamed None failing = ⊥
IsNamed (Some call) failing = Contains failing call

-- calls are numbered one after another, up to the greatest u64
abbrev pub call_after : Option ℕ → Option ℕ
call_after None = None
call_after (Some call) = if nat_lt call (2 ^ 64 - 1) then Some (call + 1) else None

-- a count goes up by one, and stands still at the greatest u64
abbrev pub one_more : ℕ → ℕ
one_more count = min (count + 1) (2 ^ 64 - 1)

-- the sink is full, and the piece has bytes that it would have to take
pub record IsFull (sink : MemSinkState) (piece : List ℕ) : Type 0 where
  pub no_room : sink.room ≤ length sink.held
  pub not_empty : piece ≢ []
