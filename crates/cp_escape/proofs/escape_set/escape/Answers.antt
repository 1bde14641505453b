use Rattle.std.proofs.Common.{◌≡◌, ◌↔◌, [], subst}
use Rattle.std.specs.Prelude.{IfOk}
use Rattle.cp_theory.specs.Guards.{Guards}
use Rattle.cp_derive.specs.AtTest.{SkeletonTest}
use Rattle.cp_escape.specs.Escape.{IsEscape}
use Rattle.cp_escape.specs.Sent.{CarriesBefore}
use Rattle.cp_escape.proofs.escape_set.escape.Goals as goal

pub returns : goal.returns
returns c = record {
  exact = subst (λ (t : SkeletonTest). IfOk c.escape_at.result (λ ps. IsEscape t.skeleton t.node t.critical ps.items)) c.in_ok-test.ensures c.escape_at.ensures.exact;
  guards = subst (λ (t : SkeletonTest). IfOk c.escape_at.result (λ ps. Guards ps.items t.skeleton t.node t.critical)) c.in_ok-test.ensures c.escape_at.ensures.guards;
  empty = subst (λ (t : SkeletonTest). IfOk c.escape_at.result (λ ps. (ps.items ≡ []) ↔ (CarriesBefore t.skeleton t.node t.critical → ⊥))) c.in_ok-test.ensures c.escape_at.ensures.empty;
}
