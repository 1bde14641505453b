-- What messages of the program stand for.
use Rattle.cp_model.specs.Message.{text, datum, name, key, Message, tag, atom, pair, enc}
use Rattle.cp_model.specs.declared.message.Form.{Form}
use Rattle.cp_model.specs.declared.message.Form.TheVariants as forms

-- The message that is made so.
abbrev pub message_of_form : Form → Message
message_of_form (forms.Tag bytes) = tag bytes
message_of_form (forms.Text n) = atom (text n)
message_of_form (forms.Datum n) = atom (datum n)
message_of_form (forms.Name n) = atom (name n)
message_of_form (forms.Key k) = atom (key k)
message_of_form (forms.Pair left right) = pair left right
message_of_form (forms.Encryption body k) = enc body k
