use Rattle.cp_cohort.proofs.Settled.{settles_tried, settles_later}
use Rattle.cp_cohort.proofs.trials.settling_is_trying.Goals as goal

pub returns-clause-tries : goal.returns-clause-tries
returns-clause-tries c = λ protocol first r ks stage x ys used w settles listed. settles_tried protocol first r used ks settles w listed

pub returns-clause-on_the_way : goal.returns-clause-on_the_way
returns-clause-on_the_way c = λ protocol first r stage x y ys used w settles i. settles_later protocol first r used settles w y i
