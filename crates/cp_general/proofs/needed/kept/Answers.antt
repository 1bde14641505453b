use Rattle.std.proofs.Common.{ap, ◌∙◌}
use Rattle.cp_model.specs.Skeleton.{FromProblem}
use Rattle.cp_general.proofs.NeededParts.{own_kept, all_kept}
use Rattle.cp_general.proofs.needed.kept.Goals as goal

pub returns-then-forgets_none : goal.returns-then-forgets_none
returns-then-forgets_none c = all_kept c.args.part c.args.k.now _ c.assumptions.ensures (c.forgets_none.ensures c.if-forgets_none.true)

pub returns : goal.returns
returns c = own_kept c.args.part c.args.k.now _ c.is_sound.ensures (c.assumptions-2.ensures ∙ ap (λ (f : FromProblem). f.assumptions) c.from_problem.ensures)
