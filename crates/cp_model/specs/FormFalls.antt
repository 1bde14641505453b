-- Each part of a message has a smaller size than the message.
use Rattle.std.specs.Prelude.{◌≤◌, max}
use Rattle.std.proofs.Common.{arith}
use Rattle.cp_model.specs.MessageSize.{message_size}
use Rattle.cp_model.specs.MessageView.{message_of_form}
use Rattle.cp_model.specs.declared.message.Form.{Form}
use Rattle.cp_model.specs.declared.message.Form.TheVariants as forms
use Rattle.cp_model.specs.declared.message.Msg.TheDeep.{deep-Form}

pub form_falls : (f : Form) → max (deep-Form f) 0 ≤ message_size (message_of_form f)
form_falls (forms.Tag bytes) = omega arith
form_falls (forms.Text n) = omega arith
form_falls (forms.Datum n) = omega arith
form_falls (forms.Name n) = omega arith
form_falls (forms.Key k) = omega arith
form_falls (forms.Pair left right) = omega arith
form_falls (forms.Encryption body k) = omega arith
