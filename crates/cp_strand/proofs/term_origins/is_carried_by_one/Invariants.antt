use Rattle.std.proofs.Common.{drop}
use Rattle.cp_model.specs.Homomorphism.{substitution_by}
use Rattle.cp_strand.specs.Origins.{IsCarriedByOne}
use Rattle.cp_strand.proofs.term_origins.is_carried_by_one.Given as goal

-- if one event carries the term, one of those that are left does
abbrev pub invariant-loop-event : goal.invariant-loop-event
invariant-loop-event l =
    IsCarriedByOne (substitution_by l.values) l.events l.t → IsCarriedByOne (substitution_by l.values) (drop l.event-index l.events) l.t
