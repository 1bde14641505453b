-- What a source and a sink do in one call.
use Rattle.std.specs.Prelude.{◌≡◌, ◌≢◌, ◌<◌, ◌≤◌, ◌⊎◌, ◌-◌, ◌^◌, ◌++◌, ℕ, Bool, false, List, [], length, take, drop, Option, Some, None, Result, Ok, Err}
use Rattle.cp_base.specs.declared.status.Failed.{Failed}

-- a count of faults rose, or stands at its last value, the greatest u64
abbrev pub Rose : ℕ → ℕ → Type 0
Rose old new = (old < new) ⊎ (new ≡ 2 ^ 64 - 1)

-- the first n bytes of what was left moved to the front of the buffer, and none only at the end or into no room
pub record Moved (bytes : List ℕ) (left_new : Option (List ℕ)) (buf_old buf_new : List ℕ) (n : ℕ) : Type 0 where
  pub within : n ≤ length bytes
  pub front : buf_new ≡ take n bytes ++ drop n buf_old
  pub rest : left_new ≡ Some (drop n bytes)
  pub at_end : n ≡ 0 → buf_old ≢ [] → bytes ≡ []

-- A call of take moves bytes from what is left to the buffer, and one that fails moves nothing. A source that
-- does not tell what is left never tells it, and then nothing is said of the bytes, nor of the end.
abbrev pub Takes : Option (List ℕ) → Option (List ℕ) → List ℕ → List ℕ → Result ℕ Failed → Type 0
Takes None left_new buf_old buf_new result = left_new ≡ None
Takes (Some bytes) left_new buf_old buf_new (Ok n) = Moved bytes left_new buf_old buf_new n
Takes (Some bytes) left_new buf_old buf_new (Err failed) = left_new ≡ Some bytes

-- A call of put adds the first n bytes of the piece to what is held, and one that fails adds nothing. A sink that
-- does not tell what it holds never tells it.
abbrev pub Puts : Option (List ℕ) → Option (List ℕ) → List ℕ → Result ℕ Failed → Type 0
Puts None held_new piece result = held_new ≡ None
Puts (Some bytes) held_new piece (Ok n) = held_new ≡ Some (bytes ++ take n piece)
Puts (Some bytes) held_new piece (Err failed) = held_new ≡ Some bytes

-- a call with something to give or to fill is not one that is made without need
abbrev pub IsNeeded : List ℕ → ℕ → ℕ → Type 0
IsNeeded piece old new = 0 < length piece → new ≡ old

-- only a call that gives no byte says that this is the end
abbrev pub StaysOpen : Bool → Bool → Result ℕ Failed → Type 0
StaysOpen ended_old ended_new result = ended_old ≡ false → result ≢ Ok 0 → ended_new ≡ false
