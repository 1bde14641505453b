use Rattle.cp_pattern.proofs.Opened.{declared_alone}
use Rattle.cp_pattern.proofs.opened_pattern.declare_for.Goals as goal

pub returns-clause-kept : goal.returns-clause-kept
returns-clause-kept c = declared_alone _ _ _ c.declare.result c.declare.ensures.declared c.declare.ensures.unchanged
