use Rattle.cp_printable.proofs.ReadTexts.{read_is_proper, within_bounds, read_as_they_are}
use Rattle.cp_printable.proofs.proper.proper_texts_say_their_forms.Goals as goal

pub returns-clause-given : goal.returns-clause-given
returns-clause-given c = read_is_proper

pub returns-clause-only : goal.returns-clause-only
returns-clause-only c = λ fs read proper reading. (within_bounds fs read proper reading, read_as_they_are fs read proper reading)
