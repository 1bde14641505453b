use Rattle.cp_skel.proofs.DeclaredChanges.{listener_declared, strand_declared, extended_declared, more_declared, ordered_declared}
use Rattle.cp_skel.proofs.variables_laws.changes_keep_declared_variables.Goals as goal

pub returns-clause-listener : goal.returns-clause-listener
returns-clause-listener c = listener_declared

pub returns-clause-strand : goal.returns-clause-strand
returns-clause-strand c = strand_declared

pub returns-clause-extended : goal.returns-clause-extended
returns-clause-extended c = extended_declared

pub returns-clause-more : goal.returns-clause-more
returns-clause-more c = more_declared

pub returns-clause-order : goal.returns-clause-order
returns-clause-order c = ordered_declared
