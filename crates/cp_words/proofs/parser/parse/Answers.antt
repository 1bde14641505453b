use Rattle.std.proofs.Common.{◌∙◌, map, string_bytes, sym}
use Rattle.clap.specs.Words.{subcommand_rows_of}
use Rattle.cp_words.proofs.WordsBeforeOptions.{is_simple_command}
use Rattle.cp_words.proofs.Failures.{failed, command_is_found, none_is_memory}
use Rattle.cp_words.proofs.parser.parse.Goals as goal

pub returns-in_err-matches_in-clause-memory : goal.returns-in_err-matches_in-clause-memory
returns-in_err-matches_in-clause-memory c = failed c.from_residual.result c.in_err-matches_in.field-0.0 (map string_bytes c.args.words.now) c.in_err-matches_in.ensures.memory c.from_residual.ensures.1

pub returns-clause-command : goal.returns-clause-command
returns-clause-command c =
    command_is_found (map string_bytes c.args.words.now) (subcommand_rows_of c.in_ok-matches_in.field-0) (c.in_ok-matches_in.ensures.matches is_simple_command).1 c.ok_or.result
    (sym c.ok_or.ensures.ok_part ∙ c.command_found.ensures)

pub returns-clause-memory : goal.returns-clause-memory
returns-clause-memory c =
    none_is_memory (map string_bytes c.args.words.now) (subcommand_rows_of c.in_ok-matches_in.field-0) (c.in_ok-matches_in.ensures.matches is_simple_command).1 c.ok_or.result
    (sym c.ok_or.ensures.ok_part ∙ c.command_found.ensures)
