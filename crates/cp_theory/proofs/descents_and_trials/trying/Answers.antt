use Rattle.cp_theory.proofs.Built.{more_tried, weaker_tried}
use Rattle.cp_theory.proofs.descents_and_trials.trying.Goals as goal

pub returns-clause-more : goal.returns-clause-more
returns-clause-more c = λ trial ks ls s k more tried. more_tried trial ks ls more tried

pub returns-clause-weaker : goal.returns-clause-weaker
returns-clause-weaker c = weaker_tried
