use Rattle.cp_search.proofs.SameSkeletons.{same_pairs}
use Rattle.cp_search.proofs.isomorphism.are_same_pairs.Goals as goal

pub returns : goal.returns
returns c = same_pairs c.args.a.now c.args.b.now c.eq.result c.eq.ensures
