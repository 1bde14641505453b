use Rattle.std.proofs.Common.{◌≤◌, ◌*◌, ◌+◌}
use Rattle.cp_term.specs.Size.{term_size}
use Rattle.cp_print.specs.Named.{named_in}
use Rattle.cp_print.proofs.Spines.{PartsLeft}
use Rattle.cp_print.proofs.terms.+spine.Given as goal

abbrev pub decreases-put_spine : goal.decreases-put_spine
decreases-put_spine l = 2 * term_size l.term.now

abbrev pub decreases-put_term : goal.decreases-put_term
decreases-put_term l = 2 * term_size l.term.now + 1

abbrev pub invariant-put_spine-loop-left : goal.invariant-put_spine-loop-left
invariant-put_spine-loop-left l = PartsLeft (named_in l.naming) l.fn.out l.out l.rest l.term × (term_size l.rest ≤ term_size l.term)

abbrev pub decreases-put_spine-loop-left : goal.decreases-put_spine-loop-left
decreases-put_spine-loop-left l = term_size l.rest
