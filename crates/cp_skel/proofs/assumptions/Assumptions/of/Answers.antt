use Rattle.std.proofs.Common.{rules, ◌≡◌, ◌∙◌}
use Rattle.cp_skel.proofs.ThreeLists.{by_part}
use Rattle.cp_skel.proofs.assumptions.Assumptions.of.Goals as goal

pub returns-clause-non : goal.returns-clause-non
returns-clause-non c =
    by_part c.args.non_originating c.map.result c.of_shared.result c.map.ensures.cases c.of_shared.ensures.non
    (λ u v a m h. let is : v ≡ u.items = search rules in h ∙ is)

pub returns-clause-penetrator_non : goal.returns-clause-penetrator_non
returns-clause-penetrator_non c =
    by_part c.args.penetrator_non_originating c.map-2.result c.of_shared.result c.map-2.ensures.cases c.of_shared.ensures.penetrator_non
    (λ u v a m h. let is : v ≡ u.items = search rules in h ∙ is)

pub returns-clause-unique : goal.returns-clause-unique
returns-clause-unique c =
    by_part c.args.uniquely_originating c.map-3.result c.of_shared.result c.map-3.ensures.cases c.of_shared.ensures.unique
    (λ u v a m h. let is : v ≡ u.items = search rules in h ∙ is)
