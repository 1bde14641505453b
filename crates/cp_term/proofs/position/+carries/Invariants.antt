use Rattle.cp_term.specs.Size.{term_size}
use Rattle.cp_term.proofs.CarriedTerms.{IsLeftToSearch}
use Rattle.cp_term.proofs.position.+carries.Given as goal

abbrev pub decreases-carries : goal.decreases-carries
decreases-carries l = term_size l.whole.now

abbrev pub invariant-loop-rest : goal.invariant-loop-rest
invariant-loop-rest l = IsLeftToSearch l.part l.rest l.whole

abbrev pub decreases-loop-rest : goal.decreases-loop-rest
decreases-loop-rest l = term_size l.rest
