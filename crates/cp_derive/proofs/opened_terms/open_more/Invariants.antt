use Rattle.std.proofs.Common.{List, ◌++◌}
use Rattle.cp_model.specs.Term.{Term}
use Rattle.cp_derive.specs.OpenedTerms.{weight, IsCovered, IsOpened}
use Rattle.cp_derive.proofs.OpenedPieces.{IsOpening}
use Rattle.cp_derive.proofs.opened_terms.open_more.Given as goal

abbrev pub invariant-loop-term : goal.invariant-loop-term
invariant-loop-term l = (sent : List Term) → IsOpened sent l.secrets l.fn.opening → IsOpening sent l.more l.secrets l.term-index l.opening

abbrev pub invariant-loop : goal.invariant-loop
invariant-loop l = (sent : List Term) → IsOpened sent l.secrets l.fn.opening → IsCovered (sent ++ l.more) l.secrets l.opening

abbrev pub decreases-loop : goal.decreases-loop
decreases-loop l = weight l.opening
