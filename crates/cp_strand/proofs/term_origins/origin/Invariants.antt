use Rattle.std.proofs.Common.{◌≡◌, ℕ, ◌<◌}
use Rattle.std.specs.Prelude.{Some}
use Rattle.cp_lists.specs.Lists.{item_at}
use Rattle.cp_model.specs.Term.{Term, IsCarriedByTerm}
use Rattle.cp_model.specs.Strand.{payload}
use Rattle.cp_model.specs.declared.strand.Event.{Event}
use Rattle.cp_strand.proofs.term_origins.origin.Given as goal

-- no event so far carries the value
abbrev pub invariant-loop-index : goal.invariant-loop-index
invariant-loop-index l = (j : ℕ) (e : Event Term) → j < l.index → item_at l.events j ≡ Some e → IsCarriedByTerm l.value (payload e) → ⊥
