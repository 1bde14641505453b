use Rattle.std.proofs.Common.{ap, ◌∙◌}
use Rattle.cp_model.specs.Skeleton.{Assumptions}
use Rattle.cp_skel.specs.JoinedAssumptions.{joined_assumptions}
use Rattle.cp_skel.proofs.ThreeLists.{of_lists}
use Rattle.cp_skel.proofs.assumptions.Assumptions.joined.Goals as goal

pub returns : goal.returns
returns c =
    of_lists c.joined.result c.joined-2.result c.joined-3.result c.of_shared.result c.joined.ensures c.joined-2.ensures c.joined-3.ensures
    c.of_shared.ensures.non c.of_shared.ensures.penetrator_non c.of_shared.ensures.unique
    (λ u v w a p q r h i j. (λ n. record {
      non_originating = (h ∙ p (λ _ _ e. e)) n;
      penetrator_non_originating = (i ∙ q (λ _ _ e. e)) n;
      uniquely_originating = (j ∙ r (λ _ _ e. e)) n;
    })
    ∙ ap (λ (own : Assumptions). joined_assumptions own (record {
      non_originating = c.args.non_originating.now;
      penetrator_non_originating = c.args.penetrator_non_originating.now;
      uniquely_originating = c.args.uniquely_originating.now;
    })) c.self.view_is)
