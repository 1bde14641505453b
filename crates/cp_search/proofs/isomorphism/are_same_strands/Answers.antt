use Rattle.cp_strand.proofs.SameLists.{same_lists}
use Rattle.cp_search.proofs.isomorphism.are_same_strands.Goals as goal

pub returns : goal.returns
returns c = λ _. same_lists c.args.a.now c.args.b.now c.loop-index.index c.loop-index-test.false c.if-a-b.false c.loop-index.invariant
