use Rattle.std.proofs.Common.{ap, ◌∙◌}
use Rattle.cp_model.specs.Skeleton.{FromProblem}
use Rattle.cp_skel.proofs.FourParts.{of_second}
use Rattle.cp_skel.proofs.from_problem.FromProblem.with_strands.Goals as goal

pub returns : goal.returns
returns c =
    of_second c.copy.result c.of_shared.result c.copy.ensures
    c.of_shared.ensures.strands c.of_shared.ensures.values c.of_shared.ensures.assumptions c.of_shared.ensures.pairs
    (λ k a p h i j u. λ o. record {
      strands = (h ∙ c.of.ensures) o;
      values = (i ∙ p (λ _ _ e. e) ∙ ap (λ (f : FromProblem). f.values) c.parts.ensures) o;
      assumptions = j o;
      pairs = (u ∙ c.of-2.ensures) o;
    })
