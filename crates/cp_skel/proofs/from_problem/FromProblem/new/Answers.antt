use Rattle.std.proofs.Common.{◌∙◌}
use Rattle.cp_skel.proofs.from_problem.FromProblem.new.Goals as goal

pub returns : goal.returns
returns c =
    c.of-4.ensures ∙ (λ n. record { strands = c.of.ensures n; values = c.of-2.ensures n; assumptions = c.args.assumptions; pairs = c.of-3.ensures n })
