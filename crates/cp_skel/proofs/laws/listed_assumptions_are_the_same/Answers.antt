use Rattle.cp_skel.proofs.EachOnce.{listed-non, listed-penetrator-non, listed-unique, stays-listed}
use Rattle.cp_skel.proofs.laws.listed_assumptions_are_the_same.Goals as goal

pub returns-clause-non : goal.returns-clause-non
returns-clause-non c = listed-non

pub returns-clause-penetrator_non : goal.returns-clause-penetrator_non
returns-clause-penetrator_non c = listed-penetrator-non

pub returns-clause-unique : goal.returns-clause-unique
returns-clause-unique c = listed-unique

pub returns-clause-again : goal.returns-clause-again
returns-clause-again c = stays-listed
