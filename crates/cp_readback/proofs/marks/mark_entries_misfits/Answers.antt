use Rattle.std.proofs.Common.{rules}
use Rattle.cp_readback.proofs.marks.mark_entries_misfits.Goals as goal

pub returns-else-is_word : goal.returns-else-is_word
returns-else-is_word c = search (rules, c.no_more.ensures c.args.place)
