use Rattle.cp_model.proofs.DeclaredPrefixes.{skeleton_prefixes}
use Rattle.cp_skel.proofs.laws.skeletons_have_declared_prefixes.Goals as goal

pub returns : goal.returns
returns c = skeleton_prefixes
