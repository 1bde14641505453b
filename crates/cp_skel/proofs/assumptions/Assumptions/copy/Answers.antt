use Rattle.std.proofs.Common.{◌∙◌}
use Rattle.cp_skel.proofs.ThreeLists.{of_lists}
use Rattle.cp_skel.proofs.assumptions.Assumptions.copy.Goals as goal

pub returns : goal.returns
returns c =
    of_lists c.copy.result c.copy-2.result c.copy-3.result c.of_shared.result c.copy.ensures c.copy-2.ensures c.copy-3.ensures
    c.of_shared.ensures.non c.of_shared.ensures.penetrator_non c.of_shared.ensures.unique
    (λ u v w a p q r h i j. (λ n. record {
      non_originating = (h ∙ p (λ _ _ e. e)) n;
      penetrator_non_originating = (i ∙ q (λ _ _ e. e)) n;
      uniquely_originating = (j ∙ r (λ _ _ e. e)) n;
    }) ∙ c.self.view_is)
