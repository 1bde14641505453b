use Rattle.cp_stated.proofs.Among.{exact-unique}
use Rattle.cp_stated.proofs.uniques.has_unique.Goals as goal

pub returns : goal.returns
returns c = exact-unique c.has_unique.result c.args.uniques.now c.args.unique.now c.has_unique.ensures.0 c.has_unique.ensures.1
