use Rattle.cp_theory.proofs.Skeletons.{skeleton_under_is_skeleton, with_pairs_is_skeleton}
use Rattle.cp_theory.proofs.steps.skeletons_stay_skeletons.Goals as goal

pub returns-clause-substitution : goal.returns-clause-substitution
returns-clause-substitution c = skeleton_under_is_skeleton

pub returns-clause-pairs : goal.returns-clause-pairs
returns-clause-pairs c = with_pairs_is_skeleton
