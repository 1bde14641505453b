use Rattle.std.proofs.Common.{ap, ◌∙◌}
use Rattle.cp_model.specs.Skeleton.{Assumptions}
use Rattle.cp_skel.proofs.ThreeLists.{of_two}
use Rattle.cp_skel.proofs.assumptions.Assumptions.with_uniques.Goals as goal

pub returns : goal.returns
returns c =
    of_two c.copy.result c.copy-2.result c.of_shared.result c.copy.ensures c.copy-2.ensures
    c.of_shared.ensures.non c.of_shared.ensures.penetrator_non c.of_shared.ensures.unique
    (λ u v a p q h i j. (λ n. record {
      non_originating = (h ∙ p (λ _ _ e. e)) n;
      penetrator_non_originating = (i ∙ q (λ _ _ e. e)) n;
      uniquely_originating = (j ∙ c.of.ensures) n;
    }) ∙ ap (λ (a : Assumptions). record a { uniquely_originating = c.args.uniques.items }) c.self.view_is)
