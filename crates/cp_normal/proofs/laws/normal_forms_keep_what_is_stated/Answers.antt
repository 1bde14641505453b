use Rattle.cp_normal.proofs.FormSkeletons.{form_is_skeleton, form_of_itself, normal_keeps_assumptions}
use Rattle.cp_normal.proofs.Homomorphic.{form_carries}
use Rattle.cp_normal.proofs.StatedForms.{form_keeps}
use Rattle.cp_normal.proofs.NarrowedUnder.{narrows_under}
use Rattle.cp_normal.proofs.NarrowedStandings.{narrows_standing}
use Rattle.cp_normal.proofs.laws.normal_forms_keep_what_is_stated.Goals as goal

pub returns-clause-skeleton : goal.returns-clause-skeleton
returns-clause-skeleton c = form_is_skeleton

pub returns-clause-itself : goal.returns-clause-itself
returns-clause-itself c = form_of_itself

pub returns-clause-homomorphism : goal.returns-clause-homomorphism
returns-clause-homomorphism c = λ variables problem k r own. form_carries variables problem own k r

pub returns-clause-stated : goal.returns-clause-stated
returns-clause-stated c = λ variables problem k r own. form_keeps variables problem own k r

pub returns-clause-assumptions : goal.returns-clause-assumptions
returns-clause-assumptions c = normal_keeps_assumptions

pub returns-clause-substitution : goal.returns-clause-substitution
returns-clause-substitution c = λ k l p. narrows_under p

pub returns-clause-standing : goal.returns-clause-standing
returns-clause-standing c = narrows_standing
