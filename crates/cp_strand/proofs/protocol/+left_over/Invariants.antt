use Rattle.std.proofs.Common.{◌≤◌}
use Rattle.cp_term.specs.Size.{term_size}
use Rattle.cp_strand.proofs.protocol.+left_over.Given as goal

abbrev pub decreases-left_over : goal.decreases-left_over
decreases-left_over l = term_size l.message.now

abbrev pub invariant-loop-left : goal.invariant-loop-left
invariant-loop-left l = (l.left ≤ l.parts) × (term_size l.rest ≤ term_size l.message)

abbrev pub decreases-loop-left : goal.decreases-loop-left
decreases-loop-left l = l.left
