use Rattle.std.proofs.Common.{◌<◌, length, string_bytes, sym, arith}
use Rattle.cp_words.proofs.Refused.{too_many}
use Rattle.cp_words.proofs.accepted.limits_behind.Goals as goal

pub returns-else-is_empty-2 : goal.returns-else-is_empty-2
returns-else-is_empty-2 c =
    let options = c.args.rest.now in
    let rest = c.in_ok-second.rest.now in
    let some : 0 < length options = grind arith in
    let more : 0 < length rest = grind arith in
    too_many string_bytes c.args.first c.in_ok-second.second options rest some (sym c.in_ok-second.ensures) more
