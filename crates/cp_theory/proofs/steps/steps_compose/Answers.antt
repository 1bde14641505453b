use Rattle.cp_theory.proofs.NoStandingLost.{itself_alone, among_more, through_each, covered}
use Rattle.cp_theory.proofs.steps.steps_compose.Goals as goal

pub returns-clause-itself : goal.returns-clause-itself
returns-clause-itself c = itself_alone

pub returns-clause-more : goal.returns-clause-more
returns-clause-more c = among_more

pub returns-clause-through : goal.returns-clause-through
returns-clause-through c = through_each

pub returns-clause-covers : goal.returns-clause-covers
returns-clause-covers c = covered
