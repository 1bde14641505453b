use Rattle.std.proofs.Common.{ap, ◌∙◌}
use Rattle.cp_model.specs.Skeleton.{FromProblem}
use Rattle.cp_skel.proofs.FourParts.{of_first_and_last}
use Rattle.cp_skel.proofs.from_problem.FromProblem.with_values.Goals as goal

pub returns : goal.returns
returns c =
    of_first_and_last c.copy.result c.copy-2.result c.of_shared.result c.copy.ensures c.copy-2.ensures
    c.of_shared.ensures.strands c.of_shared.ensures.values c.of_shared.ensures.assumptions c.of_shared.ensures.pairs
    (λ k n a p q h i j u. (λ o. record {
      strands = (h ∙ p (λ _ _ e. e)) o;
      values = (i ∙ c.of.ensures) o;
      assumptions = j o;
      pairs = (u ∙ q (λ _ _ e. e)) o;
    }) ∙ ap (λ (f : FromProblem). record f { values = c.args.values.items; assumptions = c.args.assumptions }) c.parts-own.ensures)
