use Rattle.std.proofs.Common.{◌≡◌, sym, ap, ◌∙◌, subst}
use Rattle.cp_skel.specs.Deletion.{as_it_is, LeavesOut, IsOriginOn, unique_renumbered, ForgetsAssumptions}
use Rattle.cp_skel.proofs.ThreeLists.{of_lists}
use Rattle.cp_skel.proofs.GivenElsewhere.{kept_of}
use Rattle.cp_skel.proofs.assumptions_left.assumptions_without.Goals as goal

pub returns : goal.returns
returns c =
    let own : c.assumptions-own.result.now ≡ c.args.k.now.from_problem.assumptions = c.assumptions-own.ensures ∙ ap (λ f. f.assumptions) c.from_problem.ensures in
    of_lists c.kind_left.result c.kind_left-2.result c.left_without.result c.of.result c.kind_left.ensures c.kind_left-2.ensures c.left_without.ensures
    c.of.ensures.non c.of.ensures.penetrator_non c.of.ensures.unique
    (λ u v w a p q r h i j.
    subst (ForgetsAssumptions c.args.gone c.args.k.now) (λ l. record { non_originating = sym h l; penetrator_non_originating = sym i l; uniquely_originating = sym j l }) (record {
      non = kept_of (λ role. role.non_originating) c.args.gone as_it_is _ _ _ _ _ _ _ c.strands.ensures
          (c.non_originating.ensures ∙ ap (λ a. a.non_originating) c.assumptions-had.ensures) (c.non_originating-2.ensures ∙ ap (λ a. a.non_originating) own) p;
      penetrator_non = kept_of (λ role. role.penetrator_non_originating) c.args.gone as_it_is _ _ _ _ _ _ _ c.strands-2.ensures
          (c.penetrator_non_originating.ensures ∙ ap (λ a. a.penetrator_non_originating) c.assumptions-had.ensures)
          (c.penetrator_non_originating-2.ensures ∙ ap (λ a. a.penetrator_non_originating) own) q;
      unique = subst (λ us. LeavesOut (IsOriginOn c.args.gone) (unique_renumbered c.args.gone) us w.items)
          (c.uniquely_originating.ensures ∙ ap (λ a. a.uniquely_originating) c.assumptions-had.ensures) r;
    }))
