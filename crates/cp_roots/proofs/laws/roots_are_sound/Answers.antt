use Rattle.cp_roots.proofs.RootsAreSound.{roots_sound}
use Rattle.cp_roots.proofs.laws.roots_are_sound.Goals as goal

pub returns : goal.returns
returns c = λ protocol variables k roots sk own are. roots_sound variables k own protocol roots sk are
