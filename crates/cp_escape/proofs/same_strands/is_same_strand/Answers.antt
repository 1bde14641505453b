use Rattle.cp_escape.proofs.SameStrandLists.{listeners_exactly}
use Rattle.cp_escape.proofs.same_strands.is_same_strand.Goals as goal

pub returns-in-Listener-Listener : goal.returns-in-Listener-Listener
returns-in-Listener-Listener c =
    listeners_exactly c.args.a.now c.args.b.now c.in-Listener-Listener.first.now c.in-Listener-Listener.second.now c.in-Listener-Listener.ensures c.in-Listener-Listener.ensures' c.same.result c.same.ensures
