use Rattle.cp_skel.proofs.CarriedHomomorphisms.{pair_stays_skeleton, reordered_stays_skeleton}
use Rattle.cp_skel.proofs.changes_laws.order_keeps_skeletons.Goals as goal

pub returns-clause-pair : goal.returns-clause-pair
returns-clause-pair c = pair_stays_skeleton

pub returns-clause-reordered : goal.returns-clause-reordered
returns-clause-reordered c = reordered_stays_skeleton
