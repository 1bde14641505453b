use Rattle.std.proofs.Common.{ap}
use Rattle.cp_model.specs.Skeleton.{FromProblem}
use Rattle.cp_skel.proofs.from_problem.FromProblem.assumptions.Goals as goal

pub returns : goal.returns
returns c = ap (λ (f : FromProblem). f.assumptions) c.parts.ensures
