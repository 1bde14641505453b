-- What the steps of a run leave, where the source and the sink tell what they hold.
use Rattle.std.specs.Prelude.{◌≡◌, ℕ, ◌<◌, List, [], ◌++◌, length, take, Bool, true, false, Option, Some, Result, Ok, Err}
use Rattle.cp_base.specs.declared.place.Refusal.{Refusal}
use Rattle.cp_base.specs.declared.status.Failed.{Failed}
use Rattle.cp_base.specs.declared.status.Status.{Status}
use Rattle.cp_base.specs.declared.status.Status.TheVariants as status
use Rattle.cp_model.specs.Tree.{Tree}
use Rattle.cp_model.specs.declared.tree.Outcome.{Outcome}
use Rattle.cp_model.specs.declared.tree.Outcome.TheVariants.{Complete as complete}
use Rattle.cp_sexpr.specs.Syntax.{Forms}
use Rattle.cp_sexpr.specs.declared.error.OrMemory.{OrMemory}
use Rattle.cp_sexpr.specs.declared.error.OrMemory.TheVariants as errors
use Rattle.cp_words.specs.declared.command.Command.{Command}
use Rattle.cp_app.specs.Headline.{IsAccepted}
use Rattle.cp_app.specs.Commands.{reads, Accepts}
use Rattle.cp_app.specs.Details.{AnswersInDetail}
use Rattle.cp_app.specs.Bench.{label_total, expanded_total, shape_total, complete_total}
use Rattle.cp_app.specs.Endings.{IsRefusedFor, HasRefused, WasTooLong, TookAtMost}
use Rattle.cp_app.specs.declared.bench.Totals.{Totals}
use Rattle.cp_app.specs.declared.stopped.Stopped.{Stopped}
use Rattle.cp_app.specs.declared.stopped.Stopped.TheVariants.{Refused, ReadFault, Memory, TooLong}

-- ---- stopped before the output

-- The status of a run that stopped for this cause.
abbrev pub status_of : Stopped → Status
status_of (Refused r) = status.Refused r
status_of ReadFault = status.ReadFault
status_of TooLong = status.TooLong
status_of Memory = status.Memory

-- The cause that an error of the reader or of the loader is.
abbrev pub cause_of : OrMemory Refusal → Stopped
cause_of (errors.Refused r) = Refused r
cause_of errors.Memory = Memory

-- The cause holds of an input that was read.
abbrev pub IsCauseFor : Command → List ℕ → Stopped → Type 0
IsCauseFor command input (Refused r) = IsRefusedFor command input r
IsCauseFor command input Memory = Unit {0}
IsCauseFor command input ReadFault = ⊥
IsCauseFor command input TooLong = ⊥

-- Reading stopped for this cause and leaves this of its source.
abbrev pub HasStoppedReading : List ℕ → Option (List ℕ) → Stopped → Type 0
HasStoppedReading input left_new (Refused r) = ⊥
HasStoppedReading input left_new TooLong = WasTooLong input left_new
HasStoppedReading input left_new ReadFault = TookAtMost input left_new
HasStoppedReading input left_new Memory = TookAtMost input left_new

-- A run that stopped for this cause leaves this of its source, if its command reads: a refused input was read to its end. For want of
-- memory any command may stop, for other causes only one that reads.
abbrev pub HasStopped : Command → List ℕ → Option (List ℕ) → Stopped → Type 0
HasStopped command input left_new (Refused r) = (reads command.name ≡ true) × HasRefused command input left_new r
HasStopped command input left_new TooLong = (reads command.name ≡ true) × WasTooLong input left_new
HasStopped command input left_new ReadFault = (reads command.name ≡ true) × TookAtMost input left_new
HasStopped command input left_new Memory = reads command.name ≡ true → TookAtMost input left_new

-- ---- the output

-- The outcome is complete.
abbrev pub is_complete : Outcome → Bool
is_complete complete = true
is_complete _ = false

-- The status of a report that was put: every outcome is complete, or some is not.
abbrev pub outcomes_status : Bool → Status
outcomes_status true = status.Done
outcomes_status false = status.Limit

-- The text is the command's answer, to an accepted input if the command reads, and it is told whether every outcome is complete.
pub record IsWhole (command : Command) (input text : List ℕ) (complete : Bool) : Type 0 where
  pub answer : AnswersInDetail command input text (outcomes_status complete)
  pub accepted : reads command.name ≡ true → (fs : Forms) × IsAccepted (Accepts command) input fs

-- The text was put, and at a fault a proper prefix of it.
abbrev pub HasPut : List ℕ → List ℕ → Option (List ℕ) → Result (Unit {0}) Failed → Type 0
HasPut before text held_new (Ok u) = held_new ≡ Some (before ++ text)
HasPut before text held_new (Err failed) = (n : ℕ) × (n < length text) × (held_new ≡ Some (before ++ take n text))

-- The source was read to its end, if the command reads, and the text of the command's answer was put so.
pub record HasAnsweredAll (command : Command) (input : List ℕ) (left_new held_old held_new : Option (List ℕ)) (complete : Bool) (result : Result (Unit {0}) Failed) : Type 0 where
  pub text : List ℕ
  pub whole : IsWhole command input text complete
  pub at_end : reads command.name ≡ true → left_new ≡ Some []
  pub put : (before : List ℕ) → held_old ≡ Some before → HasPut before text held_new result

-- An answer was put in part.
abbrev pub HasWrittenPart : Command → List ℕ → Option (List ℕ) → Option (List ℕ) → Option (List ℕ) → Type 0
HasWrittenPart command input left_new held_old held_new = (complete : Bool) × HasAnsweredAll command input left_new held_old held_new complete (Err (record {}))

-- What a command leaves of its source and of the sink for its output.
abbrev pub HasEnded : Command → List ℕ → Option (List ℕ) → Option (List ℕ) → Option (List ℕ) → Status → Type 0
HasEnded command input left_new held_old held_new status.Done = HasAnsweredAll command input left_new held_old held_new true (Ok tt)
HasEnded command input left_new held_old held_new status.Limit = HasAnsweredAll command input left_new held_old held_new false (Ok tt)
HasEnded command input left_new held_old held_new status.WriteFault = HasWrittenPart command input left_new held_old held_new
HasEnded command input left_new held_old held_new (status.Refused r) = HasStopped command input left_new (Refused r)
HasEnded command input left_new held_old held_new status.TooLong = HasStopped command input left_new TooLong
HasEnded command input left_new held_old held_new status.ReadFault = HasStopped command input left_new ReadFault
HasEnded command input left_new held_old held_new status.Memory = HasStopped command input left_new Memory
HasEnded command input left_new held_old held_new status.Usage = ⊥

-- ---- `bench`

-- These are the sums over the trees.
pub record AreTotals (trees : List Tree) (all : Totals) : Type 0 where
  pub labels : all.labels ≡ label_total trees
  pub expanded : all.expanded ≡ expanded_total trees
  pub shapes : all.shapes ≡ shape_total trees
  pub complete : all.complete ≡ complete_total trees
