use Rattle.std.proofs.Common.{⊎_elim}
use Rattle.std.proofs.lemmas.Bool.{both_ways}
use Rattle.cp_lists.proofs.Members.{in_append, in_append_left, in_append_right}
use Rattle.cp_skel.proofs.gathered.is_there.Goals as goal

pub returns-then-has : goal.returns-then-has
returns-then-has g c = ((λ e. in_append_left c.args.more.now (c.has.ensures.0 e)), λ i. c.if-has.true)

pub returns-else-has : goal.returns-else-has
returns-else-has g c = (
  (λ e. in_append_right c.args.old.now (c.has-else-has.ensures.0 e)),
  λ i. ⊎_elim (λ j. absurd (both_ways c.has.result c.if-has.false (c.has.ensures.1 j))) c.has-else-has.ensures.1 (in_append c.args.old.now c.args.more.now i),
)
