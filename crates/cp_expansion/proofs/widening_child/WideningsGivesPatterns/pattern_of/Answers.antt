use Rattle.cp_expansion.proofs.ChildPatterns.{none_while_open}
use Rattle.cp_expansion.proofs.widening_child.WideningsGivesPatterns.pattern_of.Goals as goal

pub returns-clause-none : goal.returns-clause-none
returns-clause-none c = none_while_open c.args.self.now c.args.child.now c.pattern_of.result c.pattern_of.ensures.none
