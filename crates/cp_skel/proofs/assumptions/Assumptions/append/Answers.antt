use Rattle.std.proofs.Common.{◌∙◌}
use Rattle.cp_skel.proofs.ThreeLists.{joined_lists}
use Rattle.cp_skel.proofs.assumptions.Assumptions.append.Goals as goal

pub returns-clause-joined : goal.returns-clause-joined
returns-clause-joined c =
    c.in_ok-both.ensures ∙ joined_lists c.args.self.now c.args.more c.non_originating.result.now c.penetrator_non_originating.result.now c.uniquely_originating.result.now c.non_originating.ensures c.penetrator_non_originating.ensures c.uniquely_originating.ensures
