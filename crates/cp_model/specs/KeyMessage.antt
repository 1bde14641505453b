-- Keys as messages.
use Rattle.cp_model.specs.Message.{Key, key, Message, atom}

-- The message that is this key alone.
abbrev pub key_message : Key → Message
key_message k = atom (key k)
