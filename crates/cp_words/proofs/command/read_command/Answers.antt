use Rattle.std.proofs.Common.{◌∙◌, map, string_bytes, sym}
use Rattle.cp_words.specs.CommandWords.{command_of}
use Rattle.cp_words.proofs.Failures.{command_where_some, memory_where_some}
use Rattle.cp_words.proofs.command.read_command.Goals as goal

pub returns-clause-command : goal.returns-clause-command
returns-clause-command c = command_where_some (command_of (map string_bytes c.args.words.now)) c.parse.result (sym c.is_command.ensures ∙ c.if-not-is_command.false) c.parse.ensures.command

pub returns-clause-usage : goal.returns-clause-usage
returns-clause-usage c = memory_where_some (command_of (map string_bytes c.args.words.now)) c.parse.result (sym c.is_command.ensures ∙ c.if-not-is_command.false) c.parse.ensures.memory
