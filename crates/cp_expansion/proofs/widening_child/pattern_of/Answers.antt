use Rattle.cp_expansion.proofs.ChildPatterns.{none_given}
use Rattle.cp_expansion.proofs.widening_child.pattern_of.Goals as goal

pub returns-in-AddedStrand-clause-none : goal.returns-in-AddedStrand-clause-none
returns-in-AddedStrand-clause-none c = none_given c.args.k.now c.args.child.now c.widen.result c.widen.ensures.none
