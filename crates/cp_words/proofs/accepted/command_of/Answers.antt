use Rattle.std.proofs.Common.{string_bytes}
use Rattle.cp_words.proofs.Refused.{no_command}
use Rattle.cp_words.proofs.accepted.command_of.Goals as goal

pub returns-in_default : goal.returns-in_default
returns-in_default c = no_command string_bytes c.args.words.now c.in_default.len_below
