use Rattle.cp_theory.proofs.Built.{listed_comes_down, more_comes_down, weaker_comes_down}
use Rattle.cp_theory.proofs.descents_and_trials.coming_down.Goals as goal

pub returns-clause-listed : goal.returns-clause-listed
returns-clause-listed c = listed_comes_down

pub returns-clause-more : goal.returns-clause-more
returns-clause-more c = more_comes_down

pub returns-clause-weaker : goal.returns-clause-weaker
returns-clause-weaker c = weaker_comes_down
