use Rattle.std.proofs.Common.{sym}
use Rattle.cp_term.proofs.SameTerms.{test_is}
use Rattle.cp_term.proofs.position.TermTermTest.passes.Goals as goal

pub returns : goal.returns
returns c = sym (test_is _ _ _ c.same.ensures)
