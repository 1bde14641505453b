use Rattle.std.proofs.lemmas.Result.{IfOk-weaker}
use Rattle.cp_cohort.proofs.Ranked.{step_falls}
use Rattle.cp_cohort.proofs.SolvedLeaves.{leaves_solve}
use Rattle.cp_cohort.proofs.solutions.solve.Goals as goal

pub leaves-requires : goal.leaves-requires
leaves-requires c = step_falls c.args.release.now

pub returns : goal.returns
returns c = IfOk-weaker c.leaves.result _ _ (λ ys l. leaves_solve c.args.release.now c.args.tried ys.items l) c.leaves.ensures
