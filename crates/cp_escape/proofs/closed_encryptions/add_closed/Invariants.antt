use Rattle.std.proofs.Common.{drop}
use Rattle.cp_escape.specs.ClosedEncryptions.{GivesClosedTo}
use Rattle.cp_escape.proofs.TermsOnce.{PutsSoFar}
use Rattle.cp_escape.proofs.closed_encryptions.add_closed.Given as goal

abbrev pub invariant-loop-path : goal.invariant-loop-path
invariant-loop-path l = PutsSoFar (GivesClosedTo l.known l.message) l.path-items (drop l.path-index l.path-items) l.initial.encryptions.items l.encryptions.items
