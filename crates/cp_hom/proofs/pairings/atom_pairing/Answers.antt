use Rattle.cp_hom.proofs.PairedItems.{pair_of_atoms}
use Rattle.cp_hom.proofs.pairings.atom_pairing.Goals as goal

pub returns : goal.returns
returns c =
    pair_of_atoms c.args.atoms.now c.args.others.now c.args.index c.args.image c.in-Some.from.now c.in-Some-item_at.to.now c.as_term.result.now c.as_term-2.result.now
    c.in-Some.ensures c.in-Some-item_at.ensures c.as_term.ensures c.as_term-2.ensures
