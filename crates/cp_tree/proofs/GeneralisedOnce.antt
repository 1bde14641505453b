-- What a skeleton generalises to does not generalise further.
use Rattle.cp_model.specs.Skeleton.{Skeleton}
use Rattle.cp_general.specs.Generalisation.{IsMaximallyGeneral, StepsTo, deletes, drops, GeneralisesTo, last_step, next_step}

no_step_from : (k h : Skeleton) → IsMaximallyGeneral k → StepsTo k h → ⊥
no_step_from k h most (deletes {d = d} {h = g} taken fit first) = most.deletes_none d g taken fit
no_step_from k h most (drops {p = p} none dropped fit first) = most.drops_none p h dropped fit

pub not_further : {k h : Skeleton} → IsMaximallyGeneral k → GeneralisesTo k h → ⊥
not_further most (last_step {k = k} {g = g} step end) = no_step_from k g most step
not_further most (next_step {k = k} {h = h} step rest) = no_step_from k h most step
