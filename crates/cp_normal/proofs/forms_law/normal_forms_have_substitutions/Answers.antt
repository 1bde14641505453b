use Rattle.cp_normal.proofs.WithSubstitutions.{are_formed, among_factors, same_beside}
use Rattle.cp_normal.proofs.forms_law.normal_forms_have_substitutions.Goals as goal

pub returns-clause-exist : goal.returns-clause-exist
returns-clause-exist c = are_formed

pub returns-clause-factors : goal.returns-clause-factors
returns-clause-factors c = among_factors

pub returns-clause-beside : goal.returns-clause-beside
returns-clause-beside c = same_beside
