use Rattle.cp_theory.proofs.NoneLeftOut.{empty_where_it_stands_nowhere}
use Rattle.cp_theory.proofs.FactorsThroughMaps.{left_out_factors}
use Rattle.cp_theory.proofs.cohort.none_left_out_factors.Goals as goal

pub returns-clause-covers : goal.returns-clause-covers
returns-clause-covers c = left_out_factors

pub returns-clause-nowhere : goal.returns-clause-nowhere
returns-clause-nowhere c = empty_where_it_stands_nowhere
