-- What a call of `run` leaves that puts an answer, where the source tells what it held and the sink what it holds.
use Rattle.std.specs.Prelude.{◌≡◌, ℕ, ◌<◌, ◌⊎◌, List, [], ◌++◌, length, take, true, Option, Some}
use Rattle.cp_base.specs.declared.status.Status.{Status}
use Rattle.cp_base.specs.declared.status.Status.TheVariants.{Done, Limit}
use Rattle.cp_words.specs.declared.command.Command.{Command}
use Rattle.cp_app.specs.Commands.{reads}

-- The status says that the whole text was put.
abbrev pub SaysWhole : Status → Type 0
SaysWhole s = (s ≡ Done) ⊎ (s ≡ Limit)

-- Whenever the words are this command, this input is left if the command reads, and this stands put before, P holds of the three.
abbrev pub WheneverGiven : Option Command → Option (List ℕ) → Option (List ℕ) → (Command → List ℕ → List ℕ → Type 0) → Type 0
WheneverGiven named left held P = (command : Command) (input before : List ℕ) → named ≡ Some command → (reads command.name ≡ true → left ≡ Some input) → held ≡ Some before → P command input before

-- The source was read to its end if the command reads, and what was put is its answer to the whole input.
pub record HasAnswered (Answer : List ℕ → List ℕ → Status → Type 0) (command : Command) (input before : List ℕ) (left_new held_new : Option (List ℕ)) (status : Status) : Type 0 where
  pub text : List ℕ
  pub at_end : reads command.name ≡ true → left_new ≡ Some []
  pub held : held_new ≡ Some (before ++ text)
  pub answer : Answer input text status

-- The same, but what was put is a proper prefix of such an answer.
pub record HasBrokenOff (Answer : List ℕ → List ℕ → Status → Type 0) (command : Command) (input before : List ℕ) (left_new held_new : Option (List ℕ)) : Type 0 where
  pub text : List ℕ
  pub status : Status
  pub put : ℕ
  pub whole : SaysWhole status
  pub shorter : put < length text
  pub at_end : reads command.name ≡ true → left_new ≡ Some []
  pub held : held_new ≡ Some (before ++ take put text)
  pub answer : Answer input text status
