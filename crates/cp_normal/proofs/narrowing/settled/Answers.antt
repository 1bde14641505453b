use Rattle.std.proofs.Common.{refl}
use Rattle.cp_normal.proofs.NarrowingSteps.{form_narrowed}
use Rattle.cp_normal.proofs.narrowing.settled.Goals as goal

pub returns-in-Own : goal.returns-in-Own
returns-in-Own c = form_narrowed c.args.form c.args.form c.args.form.skeleton.pairs c.requires.settled (rw c.in-Own.is at c.requires.normal) refl refl

pub with_form_pairs-requires : goal.with_form_pairs-requires
with_form_pairs-requires c = record { settled = c.requires.settled; normal = rw c.in-More.is at c.requires.normal }
