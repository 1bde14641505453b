use Rattle.std.proofs.Common.{sym}
use Rattle.cp_term.proofs.SameTerms.{test_is}
use Rattle.cp_term.proofs.keys.TermPartialEq.eq.Goals as goal

-- src/keys.rt:13:5
pub returns : goal.returns
returns c = sym (test_is c.args.self.now c.args.other.now c.same.result c.same.ensures)
