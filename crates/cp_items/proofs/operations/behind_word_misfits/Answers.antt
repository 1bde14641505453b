use Rattle.std.proofs.Common.{rules}
use Rattle.cp_items.proofs.operations.behind_word_misfits.Goals as goal

pub returns-in-Problem : goal.returns-in-Problem
returns-in-Problem c = search (rules, c.no_more.ensures c.args.place)
