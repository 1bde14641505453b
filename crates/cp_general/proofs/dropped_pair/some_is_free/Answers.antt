use Rattle.std.proofs.Common.{◌∙◌, ap}
use Rattle.cp_model.specs.Skeleton.{FromProblem}
use Rattle.cp_general.proofs.FreePairs.{free_pair_if}
use Rattle.cp_general.proofs.dropped_pair.some_is_free.Goals as goal

pub returns : goal.returns
returns c =
    free_pair_if c.args.k.now c.pairs-own.result.now c.args.added.now c.pairs-pairs.result.now c.some_is_in_neither.result (c.pairs-own.ensures ∙ ap (λ (f : FromProblem). f.pairs) c.from_problem.ensures) c.requires
    (c.pairs-pairs.ensures ∙ c.order.ensures) c.some_is_in_neither.ensures
