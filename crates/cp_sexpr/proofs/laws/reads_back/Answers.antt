use Rattle.cp_sexpr.proofs.Given.{read_is_spellable}
use Rattle.cp_sexpr.proofs.ReadBack.{form_read_back, top_forms_read_back}
use Rattle.cp_sexpr.proofs.laws.reads_back.Goals as goal

pub returns-clause-given : goal.returns-clause-given
returns-clause-given c = read_is_spellable

pub returns-clause-form : goal.returns-clause-form
returns-clause-form c = form_read_back

pub returns-clause-top_forms : goal.returns-clause-top_forms
returns-clause-top_forms c = top_forms_read_back
