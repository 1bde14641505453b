use Rattle.std.proofs.Common.{drop}
use Rattle.cp_model.specs.Homomorphism.{substitution_by}
use Rattle.cp_escape.proofs.SameValues.{AgreeSoFar}
use Rattle.cp_escape.proofs.same_strands.agree_on.Given as goal

abbrev pub invariant-loop-event : goal.invariant-loop-event
invariant-loop-event l = AgreeSoFar (substitution_by l.a) (substitution_by l.b) l.events (drop l.event-index l.events)
