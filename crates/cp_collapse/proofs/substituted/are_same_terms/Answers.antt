use Rattle.std.proofs.Common.{refl}
use Rattle.cp_strand.proofs.SameLists.{same_lists}
use Rattle.cp_collapse.proofs.substituted.are_same_terms.Goals as goal

pub returns : goal.returns
returns c = (λ _. same_lists c.args.a.now c.args.b.now c.loop-index.index c.loop-index-test.false c.if-a-b.false c.loop-index.invariant, λ _. refl)
