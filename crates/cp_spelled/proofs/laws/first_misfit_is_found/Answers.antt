use Rattle.cp_report.specs.Misfits.{place_before}
use Rattle.cp_scope.proofs.FirstOf.{none_found}
use Rattle.cp_spelled.proofs.Firsts.{first_found}
use Rattle.cp_spelled.proofs.laws.first_misfit_is_found.Goals as goal

pub returns-clause-first : goal.returns-clause-first
returns-clause-first c = first_found

pub returns-clause-none : goal.returns-clause-none
returns-clause-none c = none_found place_before
