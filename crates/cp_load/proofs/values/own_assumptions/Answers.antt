use Rattle.std.proofs.Common.{◌∙◌}
use Rattle.cp_skel.proofs.ThreeLists.{of_lists}
use Rattle.cp_load.proofs.values.own_assumptions.Goals as goal

pub returns : goal.returns
returns c =
    of_lists c.own_atoms.result c.own_atoms-2.result c.own_uniques.result c.of.result c.own_atoms.ensures c.own_atoms-2.ensures c.own_uniques.ensures
    c.of.ensures.non c.of.ensures.penetrator_non c.of.ensures.unique
    (λ u v w a p q r h i j l. record { non_originating = (h ∙ p) l; penetrator_non_originating = (i ∙ q) l; uniquely_originating = (j ∙ r) l })
