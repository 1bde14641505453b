use Rattle.cp_general.proofs.Stepped.{unfit_drops_none}
use Rattle.cp_general.proofs.generalisation.dropped.Goals as goal

pub returns-then-not-branch-clause-none : goal.returns-then-not-branch-clause-none
returns-then-not-branch-clause-none c = c.in_ok-some_may_drop.ensures c.if-not-branch.true

pub returns-then-not-branch-2-clause-none : goal.returns-then-not-branch-2-clause-none
returns-then-not-branch-2-clause-none c = unfit_drops_none c.args.k.now c.in_ok-is_known_or_fit.field-0 c.is_sound.ensures.skeleton.no_cycle c.in_ok-is_known_or_fit.ensures c.if-not-branch-2.true

pub dropped_where_fit-requires-clause-fit : goal.dropped_where_fit-requires-clause-fit
dropped_where_fit-requires-clause-fit c = c.in_ok-is_known_or_fit.ensures.0 c.if-not-branch-2.false
