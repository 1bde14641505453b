use Rattle.cp_lists.proofs.Members.{item_in}
use Rattle.cp_hom.proofs.broken.breaks_pairs.Goals as goal

pub returns-then-branch : goal.returns-then-branch
returns-then-branch c = λ _ f placed kept. c.in_ok-is_broken.ensures c.if-branch.true f placed (kept _ (item_in c.args.pairs.now c.loop-pair.pair-index _ c.loop-pair-test.true))
