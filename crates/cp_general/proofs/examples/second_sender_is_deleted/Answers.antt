use Rattle.cp_general.proofs.SentTwice.{is_skeleton, generalises}
use Rattle.cp_general.proofs.examples.second_sender_is_deleted.Goals as goal

pub returns-clause-skeleton : goal.returns-clause-skeleton
returns-clause-skeleton c = is_skeleton

pub returns-clause-generalises : goal.returns-clause-generalises
returns-clause-generalises c = generalises
