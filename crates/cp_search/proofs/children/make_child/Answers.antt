use Rattle.std.proofs.lemmas.Result.{on_ok_weaker}
use Rattle.cp_search.proofs.MadeInTurn.{child_made}
use Rattle.cp_search.proofs.children.make_child.Goals as goal

pub returns-clause-made : goal.returns-clause-made
returns-clause-made c =
    on_ok_weaker c.make.result
    (λ made. child_made c.args.parent c.args.child c.list_assumptions.new.self c.args.queue.now.made c.make.new.queue.made c.in_ok-list_assumptions.ensures.listed made)
    c.make.ensures.made
