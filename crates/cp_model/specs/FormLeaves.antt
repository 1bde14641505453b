-- Messages by their parts.
use Rattle.cp_model.specs.declared.message.Form.{Form}
use Rattle.cp_model.specs.declared.message.Form.TheVariants.{Pair, Encryption}

-- The message has no parts that are messages.
abbrev pub IsLeafForm : Form → Type 0
IsLeafForm (Pair left right) = ⊥
IsLeafForm (Encryption body k) = ⊥
IsLeafForm _ = Unit {0}
