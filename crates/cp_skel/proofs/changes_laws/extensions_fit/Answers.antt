use Rattle.cp_skel.proofs.CarriedHomomorphisms.{extension_fits}
use Rattle.cp_skel.proofs.SoundSkeletons.{sound_longer}
use Rattle.cp_skel.proofs.changes_laws.extensions_fit.Goals as goal

pub returns-clause-higher : goal.returns-clause-higher
returns-clause-higher c = λ s height values old new can x. extension_fits s height values old new x can

pub returns-clause-declared : goal.returns-clause-declared
returns-clause-declared c = λ s height values old new is x. sound_longer old s x.role x.before height x.old_terms is x.was_instance
