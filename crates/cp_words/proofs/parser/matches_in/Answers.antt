use Rattle.std.proofs.Common.{map, string_bytes}
use Rattle.clap.specs.Words.{app_of, kind_of}
use Rattle.cp_words.proofs.Failures.{memory_only}
use Rattle.cp_words.proofs.parser.matches_in.Goals as goal

pub returns-in_err-try_get_matches_from-clause-memory : goal.returns-in_err-try_get_matches_from-clause-memory
returns-in_err-try_get_matches_from-clause-memory c =
    memory_only c.from_residual-in_err-try_get_matches_from.result (kind_of c.in_err-try_get_matches_from.field-0.0) (app_of c.in_ok-description.field-0) (map string_bytes c.args.words.now)
    c.in_ok-description.ensures c.in_err-try_get_matches_from.ensures.passes c.from_residual-in_err-try_get_matches_from.ensures.1
