use Rattle.cp_unify.proofs.SolvedBindings.{sorted_under}
use Rattle.cp_unify.proofs.composition.join_all.Goals as goal

pub new-requires : goal.new-requires
new-requires c = sorted_under c.args.second.now c.binding-item.result _ _ _ c.term.ensures.sort c.variable.ensures c.term.ensures.term c.in_ok-term.ensures.plain
