use Rattle.std.proofs.Common.{refl}
use Rattle.cp_normal.proofs.NarrowingSteps.{form_narrowed}
use Rattle.cp_normal.proofs.SoundForms.{form_sound}
use Rattle.cp_normal.proofs.narrowing.with_form_pairs.Goals as goal

pub with_pairs-requires : goal.with_pairs-requires
with_pairs-requires c = form_sound c.args.form.skeleton c.args.pairs.items c.is_sound.ensures c.requires.normal

pub returns : goal.returns
returns c = form_narrowed c.args.form _ c.args.pairs.items c.requires.settled c.requires.normal c.in_ok-skeleton.ensures refl
