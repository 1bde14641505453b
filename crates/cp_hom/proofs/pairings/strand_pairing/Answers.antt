use Rattle.cp_hom.proofs.PairedItems.{pair_of_strands}
use Rattle.cp_hom.proofs.pairings.strand_pairing.Goals as goal

pub returns : goal.returns
returns c = pair_of_strands c.args.strands.now c.args.others.now c.args.strand c.args.image c.in-Some.from.now c.in-Some-item_at.to.now c.in-Some.ensures c.in-Some-item_at.ensures
