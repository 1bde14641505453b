-- Sizes of messages.
use Rattle.std.specs.Prelude.{ℕ, ◌+◌}
use Rattle.cp_model.specs.Message.{Message, tag, atom, pair, enc}

-- The size of a message: it is greater than that of each part.
abbrev pub message_size : Message → ℕ
message_size (tag bytes) = 1
message_size (atom a) = 1
message_size (pair a b) = message_size a + message_size b + 1
message_size (enc a k) = message_size a + 1
