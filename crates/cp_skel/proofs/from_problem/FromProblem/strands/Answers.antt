use Rattle.std.proofs.Common.{ap, ◌∙◌}
use Rattle.cp_model.specs.Skeleton.{FromProblem}
use Rattle.cp_skel.proofs.from_problem.FromProblem.strands.Goals as goal

pub returns : goal.returns
returns c = c.as_slice.ensures ∙ ap (λ (f : FromProblem). f.strands) c.parts.ensures
