use Rattle.std.proofs.Common.{ap, ◌∙◌, subst}
use Rattle.cp_model.specs.GivenAssumptions.{IsEachOnce}
use Rattle.cp_skel.proofs.AlreadyListed.{listed_of}
use Rattle.cp_skel.proofs.already_listed.is_listed.Goals as goal

pub returns : goal.returns
returns c h =
    let k = c.args.skeleton.now in
    let old = c.assumptions-old.ensures in
    listed_of k c.assumptions-old.result.now _ _ c.in-Some.first _ old (c.assumptions.ensures ∙ ap (λ f. f.assumptions) c.from_problem.ensures) c.strands.ensures c.in-Some.ensures c.in-Some-listed_with_strands.ensures
    (subst IsEachOnce (c.non_originating.ensures ∙ ap (λ a. a.non_originating) old) (c.are_distinct.ensures c.if-not-are_distinct.false))
    (subst IsEachOnce (c.penetrator_non_originating.ensures ∙ ap (λ a. a.penetrator_non_originating) old) (c.are_distinct-2.ensures c.if-not-are_distinct-2.false))
    (subst IsEachOnce (c.uniquely_originating.ensures ∙ ap (λ a. a.uniquely_originating) old) (c.are_distinct-3.ensures h))
