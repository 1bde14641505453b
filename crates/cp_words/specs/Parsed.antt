-- What the parser of command lines reads of a command's words.
use Rattle.std.specs.Prelude.{◌≡◌, ℕ, true, List, Option, Some, None, codes, option_and_then}
use Rattle.clap.specs.Words.{Row, Text, first_of, subcommand_of, takes}
use Rattle.clap.specs.declared.error.kind.ErrorKind.{ErrorKind}
use Rattle.clap.specs.declared.error.kind.ErrorKind.TheVariants.{OutOfMemory}
use Rattle.cp_model.specs.declared.tree.Limits.{Limits}
use Rattle.cp_words.specs.declared.command.Command.{Command}
use Rattle.cp_words.specs.CommandWords.{parsed_number, command_named, command_with}
use Rattle.cp_words.specs.Description.{described}
use Rattle.cp_words.specs.declared.error.WordsError.{WordsError}
use Rattle.cp_words.specs.declared.error.WordsError.TheVariants.{Usage, Memory}

-- The parser fails for want of memory, or for the words.
abbrev pub words_error_of : ErrorKind → WordsError
words_error_of OutOfMemory = Memory
words_error_of _ = Usage

-- the number that stands for an option, or alone
abbrev pub option_number : Text → List Row → Option ℕ
option_number name rows = option_and_then parsed_number (first_of name rows)

abbrev pub limits_from : Option ℕ → Option ℕ → Option Limits
limits_from (Some steps) (Some strands) = Some (record { steps = steps; strands = strands })
limits_from _ _ = None

abbrev pub limits_in : List Row → Option Limits
limits_in rows = limits_from (option_number (codes "limit") rows) (option_number (codes "bound") rows)

-- the command that the parser found
abbrev pub command_found : Option (Text × List Row) → Option Command
command_found = option_and_then (λ p. command_with (command_named p.0) p.0 (limits_in p.1) (option_number (codes "N") p.1))

-- The parser takes the words, and finds this command in them.
pub record IsParsedAs (words : List Text) (command : Command) : Type 0 where
  pub taken : takes described words ≡ true
  pub found : command_found (subcommand_of described words) ≡ Some command
