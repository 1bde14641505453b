use Rattle.std.proofs.Common.{Some, sym, ap, ◌∙◌}
use Rattle.std.proofs.lemmas.Result.{IfOk-weaker}
use Rattle.cp_model.proofs.SameTests.{term_is}
use Rattle.cp_term.proofs.term_table.TermTable.intern.Goals as goal

-- src/term_table.rt:50:5
pub returns-clause-there : goal.returns-clause-there
returns-clause-there c = IfOk-weaker c.put.result _ _ (λ id h. h.1 ∙ ap Some (sym (term_is c.in_ok-t.t h.0 h.2) ∙ c.in_ok-t.ensures)) c.put.ensures.there
