use Rattle.std.proofs.Common.{◌≤◌}
use Rattle.cp_model.specs.Message.{IsCarriedBy}
use Rattle.cp_model.specs.MessageSize.{message_size}
use Rattle.cp_model.proofs.message.Msg.+carries.Given as goal

abbrev pub decreases-carries : goal.decreases-carries
decreases-carries l = message_size l.self.now

-- what the rest carries is all that is left to look for
abbrev pub invariant-loop-rest : goal.invariant-loop-rest
invariant-loop-rest l = (message_size l.rest ≤ message_size l.self) × (IsCarriedBy l.part l.rest → IsCarriedBy l.part l.self) × (IsCarriedBy l.part l.self → IsCarriedBy l.part l.rest)

abbrev pub decreases-loop-rest : goal.decreases-loop-rest
decreases-loop-rest l = message_size l.rest
