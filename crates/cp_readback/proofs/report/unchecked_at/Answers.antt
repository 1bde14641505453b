use Rattle.std.proofs.Common.{sym, ◌∙◌}
use Rattle.cp_lists.proofs.Items.{item_of_read, item_past}
use Rattle.cp_readback.proofs.Reported.{unchecked-read, unchecked-none}
use Rattle.cp_readback.proofs.report.unchecked_at.Goals as goal

pub returns-in-Some : goal.returns-in-Some
returns-in-Some c =
    c.problem.ensures
    ∙ unchecked-read c.args.unchecked_entries.now c.args.place c.in-Some.unchecked.now (sym (item_of_read c.args.unchecked_entries.now c.args.place c.in-Some.unchecked.now c.in-Some.ensures.lookup.3.0 c.in-Some.ensures.lookup.1))

pub returns-in-None : goal.returns-in-None
returns-in-None c = unchecked-none c.args.unchecked_entries.now c.args.place (sym (item_past c.args.unchecked_entries.now c.args.place c.in-None.ensures.lookup.3))
