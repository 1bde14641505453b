use Rattle.std.specs.Prelude.{IfOk}
use Rattle.std.proofs.lemmas.Result.{IfOk-weaker}
use Rattle.cp_general.proofs.AllPairs.{sound_by, HasAllPairs, made_whole}
use Rattle.cp_general.proofs.pairs.with_all_pairs.Goals.{After-reordered}
use Rattle.cp_general.proofs.pairs.with_all_pairs.Goals as goal

pub reordered-requires : goal.reordered-requires
reordered-requires c = sound_by c.args.k.now c.in_ok-pairs.pairs.items c.of-order.result c.is_sound.ensures c.in_ok-pairs.ensures c.of-order.ensures

-- what is made has all pairs of the skeleton's order
made : (c : After-reordered) → IfOk c.reordered.result (HasAllPairs c.args.k.now)
made c =
    IfOk-weaker c.reordered.result _ _
    (λ h made. made_whole c.args.k.now h c.in_ok-pairs.pairs.items c.of-order.result c.is_sound.ensures c.in_ok-pairs.ensures c.of-order.ensures made) c.reordered.ensures

pub returns-clause-same : goal.returns-clause-same
returns-clause-same c = IfOk-weaker c.reordered.result _ _ (λ h m. m.same) (made (goal.at.returns-clause-same c).After-reordered)

pub returns-clause-before : goal.returns-clause-before
returns-clause-before c = IfOk-weaker c.reordered.result _ _ (λ h m. m.before) (made (goal.at.returns-clause-before c).After-reordered)

pub returns-clause-lists : goal.returns-clause-lists
returns-clause-lists c = IfOk-weaker c.reordered.result _ _ (λ h m. m.lists) (made (goal.at.returns-clause-lists c).After-reordered)
