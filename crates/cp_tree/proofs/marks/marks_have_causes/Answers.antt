use Rattle.cp_tree.proofs.Causes.{shape_cause, instance_cause, seen_cause, seen_where_it_may, dead_cause, strands_cause, steps_cause, generalised_cause}
use Rattle.cp_tree.proofs.marks.marks_have_causes.Goals as goal

pub returns-clause-shape : goal.returns-clause-shape
returns-clause-shape c = shape_cause

pub returns-clause-dead : goal.returns-clause-dead
returns-clause-dead c = dead_cause

pub returns-clause-seen : goal.returns-clause-seen
returns-clause-seen c = seen_cause

pub returns-clause-seen_where_it_may : goal.returns-clause-seen_where_it_may
returns-clause-seen_where_it_may c = seen_where_it_may

pub returns-clause-instance : goal.returns-clause-instance
returns-clause-instance c = instance_cause

pub returns-clause-limit_strands : goal.returns-clause-limit_strands
returns-clause-limit_strands c = strands_cause

pub returns-clause-limit_steps : goal.returns-clause-limit_steps
returns-clause-limit_steps c = steps_cause

pub returns-clause-generalised : goal.returns-clause-generalised
returns-clause-generalised c = generalised_cause
