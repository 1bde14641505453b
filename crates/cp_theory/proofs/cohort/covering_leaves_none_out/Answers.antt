use Rattle.cp_theory.proofs.NoneLeftOut.{covering_leaves_none_out}
use Rattle.cp_theory.proofs.cohort.covering_leaves_none_out.Goals as goal

pub returns : goal.returns
returns c = covering_leaves_none_out
