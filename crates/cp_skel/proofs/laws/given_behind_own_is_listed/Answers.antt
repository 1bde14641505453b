use Rattle.cp_model.proofs.Gathered.{atoms, uniques}
use Rattle.cp_skel.proofs.EachOnce.{listed-loaded}
use Rattle.cp_skel.proofs.laws.given_behind_own_is_listed.Goals as goal

pub returns-clause-atoms : goal.returns-clause-atoms
returns-clause-atoms c own given once = listed-loaded atoms own given once

pub returns-clause-uniques : goal.returns-clause-uniques
returns-clause-uniques c own given once = listed-loaded uniques own given once
