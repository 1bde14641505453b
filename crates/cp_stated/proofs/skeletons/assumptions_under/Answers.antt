use Rattle.std.proofs.Common.{◌∙◌}
use Rattle.cp_skel.proofs.ThreeLists.{of_lists}
use Rattle.cp_stated.proofs.skeletons.assumptions_under.Goals as goal

pub returns : goal.returns
returns c =
    of_lists c.atoms_under.result c.atoms_under-2.result c.uniques_under.result c.of.result c.atoms_under.ensures c.atoms_under-2.ensures c.uniques_under.ensures
    c.of.ensures.non c.of.ensures.penetrator_non c.of.ensures.unique
    (λ u v w a p q r h i j l. record { non_originating = (h ∙ p) l; penetrator_non_originating = (i ∙ q) l; uniquely_originating = (j ∙ r) l })

pub atoms_under-requires : goal.atoms_under-requires
atoms_under-requires c = c.requires

pub atoms_under-requires-2 : goal.atoms_under-requires-2
atoms_under-requires-2 c = c.requires

pub uniques_under-requires : goal.uniques_under-requires
uniques_under-requires c = c.requires
