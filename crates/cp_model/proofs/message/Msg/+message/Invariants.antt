use Rattle.std.proofs.Common.{◌≤◌}
use Rattle.cp_model.specs.MessageSize.{message_size}
use Rattle.cp_model.proofs.message.Msg.+message.Given as goal

abbrev pub decreases-drop : goal.decreases-drop
decreases-drop l = message_size l.self

abbrev pub invariant-loop-left : goal.invariant-loop-left
invariant-loop-left l = message_size l.self ≤ message_size l.initial.self
