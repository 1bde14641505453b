use Rattle.cp_app.proofs.CommandCases.{reads_exactly, accepts_exactly, refuses_exactly}
use Rattle.cp_app.proofs.laws.well_formed_input_is_accepted.Goals as goal

pub returns-clause-reads : goal.returns-clause-reads
returns-clause-reads c = λ command. reads_exactly command.name

pub returns-clause-accepts : goal.returns-clause-accepts
returns-clause-accepts c = λ command fs. accepts_exactly command.name fs

pub returns-clause-refuses : goal.returns-clause-refuses
returns-clause-refuses c = λ command fs r. refuses_exactly command.name fs r
