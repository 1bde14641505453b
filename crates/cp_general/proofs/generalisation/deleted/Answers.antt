use Rattle.std.proofs.Common.{◌∙◌}
use Rattle.cp_general.proofs.SoundGeneralisations.{step_is_fit}
use Rattle.cp_general.proofs.Stepped.{comes_next}
use Rattle.cp_general.proofs.generalisation.deleted.Goals as goal

pub loop-left-preserved : goal.loop-left-preserved
loop-left-preserved c = (
  λ k comes. comes_next k c.loop-left.left c.in-Some.next (c.loop-left.invariant.0 k comes) (rw c.in-Some.is at c.in_ok-next.ensures.some),
  (rw c.in-Some.is at c.in_ok-next.ensures.variables) ∙ c.loop-left.invariant.1,
  λ _. step_is_fit (rw c.in-Some.is at c.in_ok-next.ensures.some),
)
