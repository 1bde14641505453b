use Rattle.cp_search.proofs.KeptRecords.{none_kept}
use Rattle.cp_search.proofs.waiting.Queue.new.Goals as goal

pub returns-clause-kept : goal.returns-clause-kept
returns-clause-kept c = none_kept (record { made = c.new.result; waiting = c.new-2.result }) c.new.ensures c.new-2.ensures.empty
