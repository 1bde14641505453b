-- What a call of `run` leaves where it answers nothing: what refuses an input, how much was taken, and the lines of statuses.
use Rattle.std.specs.Prelude.{◌≡◌, ℕ, ◌+◌, ◌<◌, ◌≤◌, ◌⊎◌, List, [], ◌∷◌, ◌++◌, length, take, drop, Bool, true, false, codes, decimal, Option, Some, Ok, Err}
use Rattle.cp_base.specs.Codes.{code_text}
use Rattle.cp_base.specs.Outside.{Rose}
use Rattle.cp_base.specs.declared.place.Refusal.{Refusal}
use Rattle.cp_base.specs.declared.status.Status.{Status}
use Rattle.cp_base.specs.declared.status.Status.TheVariants.{Done, Limit, Usage, Refused, ReadFault, WriteFault, Memory, TooLong}
use Rattle.cp_sexpr.specs.Syntax.{Forms}
use Rattle.cp_sexpr.specs.Reading.{IsReading}
use Rattle.cp_words.specs.declared.command.Command.{Command}
use Rattle.cp_app.specs.Headline.{most_bytes}
use Rattle.cp_app.specs.Commands.{Refuses}

-- ---- inputs that are refused or too long

-- The command refuses the whole input so: the reader refuses it, or the command refuses its forms.
abbrev pub IsRefusedFor : Command → List ℕ → Refusal → Type 0
IsRefusedFor command input r = IsReading input (Err r) ⊎ ((fs : Forms) × IsReading input (Ok fs) × Refuses command fs r)

-- A refused input was read to its end, and is refused so.
pub record HasRefused (command : Command) (input : List ℕ) (left_new : Option (List ℕ)) (r : Refusal) : Type 0 where
  pub at_end : left_new ≡ Some []
  pub short : length input ≤ most_bytes
  pub cause : IsRefusedFor command input r

-- Of too long an input one byte more than the most was taken.
pub record WasTooLong (input : List ℕ) (left_new : Option (List ℕ)) : Type 0 where
  pub long : most_bytes < length input
  pub left : left_new ≡ Some (drop (most_bytes + 1) input)

-- At most one byte more than an input may have was taken.
abbrev pub TookAtMost : List ℕ → Option (List ℕ) → Type 0
TookAtMost input left_new = (n : ℕ) × (n ≤ most_bytes + 1) × (left_new ≡ Some (drop n input))

-- The line was put, or a prefix of it if the count of faults rose.
abbrev pub HasLine : List ℕ → List ℕ → Option (List ℕ) → ℕ → ℕ → Type 0
HasLine text before held_new faults_old faults_new =
    (held_new ≡ Some (before ++ text)) ⊎ ((n : ℕ) × (held_new ≡ Some (before ++ take n text)) × Rose faults_old faults_new)

-- ---- statuses

-- Nothing is put at these.
abbrev pub puts_nothing : Status → Bool
puts_nothing Usage = true
puts_nothing (Refused r) = true
puts_nothing ReadFault = true
puts_nothing Memory = true
puts_nothing TooLong = true
puts_nothing Done = false
puts_nothing Limit = false
puts_nothing WriteFault = false

abbrev pub line : List ℕ → List ℕ
line t = t ++ 10 ∷ []

-- The line that a status has on the error stream.
abbrev pub status_line : Status → List ℕ
status_line Done = []
status_line Limit = []
status_line Usage = line (codes "usage: cpsa COMMAND [--limit N] [--bound N]")
status_line (Refused r) = line (codes "refused " ++ decimal r.place.line ++ codes ":" ++ decimal r.place.col ++ codes " " ++ code_text r.code)
status_line ReadFault = line (codes "read fault")
status_line WriteFault = line (codes "write fault")
status_line Memory = line (codes "memory")
status_line TooLong = line (codes "too long")
