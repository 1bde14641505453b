use Rattle.cp_normal.proofs.MisplacedText.{misplaced, most_general, form}
use Rattle.cp_normal.proofs.examples.misplaced_text_example.Goals as goal

pub returns-clause-misplaced : goal.returns-clause-misplaced
returns-clause-misplaced c = misplaced

pub returns-clause-most_general : goal.returns-clause-most_general
returns-clause-most_general c = most_general

pub returns-clause-form : goal.returns-clause-form
returns-clause-form c = form
