use Rattle.std.proofs.Common.{map}
use Rattle.cp_theory.specs.Above.{encryptions_above}
use Rattle.cp_theory.proofs.AllAbove.{all_above}
use Rattle.cp_escape.proofs.above.encryptions_above.Goals as goal

pub returns : goal.returns
returns c = all_above c.loop-step.rest.now c.args.path.now c.loop-step.step-index (map (λ e. e.now) c.loop-step.encryptions.items) (encryptions_above c.args.message.now c.args.path.now) c.loop-step-test.false c.loop-step.invariant
