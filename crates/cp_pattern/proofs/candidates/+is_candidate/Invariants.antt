use Rattle.std.proofs.Common.{◌≡◌, ◌≤◌}
use Rattle.cp_term.specs.Size.{term_size}
use Rattle.cp_pattern.specs.Candidates.{may_equal}
use Rattle.cp_pattern.proofs.candidates.+is_candidate.Given as goal

abbrev pub decreases-is_candidate : goal.decreases-is_candidate
decreases-is_candidate l = term_size l.critical.now

-- the parts that are left may be equal where the whole terms may be
abbrev pub invariant-parts : goal.invariant-parts
invariant-parts l = (may_equal l.sought l.there ≡ may_equal l.critical l.term) × (term_size l.sought ≤ term_size l.critical)

abbrev pub decreases-parts : goal.decreases-parts
decreases-parts l = term_size l.sought
