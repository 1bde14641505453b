use Rattle.std.proofs.Common.{◌≡◌, ◌≤◌}
use Rattle.cp_term.specs.Size.{term_size}
use Rattle.cp_pattern.specs.Candidates.{may_equal, carries_where}
use Rattle.cp_pattern.proofs.candidates.+may_carry.Given as goal

abbrev pub decreases-may_carry : goal.decreases-may_carry
decreases-may_carry l = term_size l.whole.now

abbrev pub invariant-rest : goal.invariant-rest
invariant-rest l = (carries_where (may_equal l.critical) l.rest ≡ carries_where (may_equal l.critical) l.whole) × (term_size l.rest ≤ term_size l.whole)

abbrev pub decreases-rest : goal.decreases-rest
decreases-rest l = term_size l.rest
