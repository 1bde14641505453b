use Rattle.std.proofs.Common.{◌∙◌, ap}
use Rattle.cp_model.specs.Skeleton.{FromProblem}
use Rattle.cp_skel.proofs.SoundSkeletons.{sound_ordered}
use Rattle.cp_general.proofs.Dropped.{may_not_own, may_not_added, may_if}
use Rattle.cp_general.proofs.dropped_pair.may_drop.Goals as goal

pub returns-then-is_among : goal.returns-then-is_among
returns-then-is_among c =
    may_not_own c.args.pair c.args.k.now c.pairs.result.now c.is_among.result (c.pairs.ensures ∙ ap (λ (f : FromProblem). f.pairs) c.from_problem.ensures) c.is_among.ensures c.if-is_among.true

pub returns-then-is_among-2 : goal.returns-then-is_among-2
returns-then-is_among-2 c = may_not_added c.args.pair c.args.k.now c.args.added.now c.is_among-2.result c.requires.added c.is_among-2.ensures c.if-is_among-2.true

pub returns : goal.returns
returns c =
    may_if c.args.pair c.args.k.now (sound_ordered c.args.k.now c.is_sound.ensures) c.requires.lists c.requires.listed c.pairs.result.now c.args.added.now c.pairs-2.result.now c.is_among.result c.is_among-2.result
    c.is_covered.result (c.pairs.ensures ∙ ap (λ (f : FromProblem). f.pairs) c.from_problem.ensures) c.is_among.ensures c.if-is_among.false c.requires.added c.is_among-2.ensures c.if-is_among-2.false
    (c.pairs-2.ensures ∙ c.order.ensures) c.is_covered.ensures
