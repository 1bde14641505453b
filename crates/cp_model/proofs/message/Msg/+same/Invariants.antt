use Rattle.std.proofs.Common.{◌≡◌, ◌≤◌}
use Rattle.cp_model.specs.MessageSize.{message_size}
use Rattle.cp_model.proofs.message.Msg.+same.Given as goal

abbrev pub decreases-same : goal.decreases-same
decreases-same l = message_size l.self.now

abbrev pub invariant-loop-left : goal.invariant-loop-left
invariant-loop-left l = (message_size l.a ≤ message_size l.self) × (l.a ≡ l.b → l.self ≡ l.other) × (l.self ≡ l.other → l.a ≡ l.b)

abbrev pub decreases-loop-left : goal.decreases-loop-left
decreases-loop-left l = message_size l.a
