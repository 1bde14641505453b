use Rattle.cp_model.proofs.PrefixVariables.{in-prefix, in-added}
use Rattle.cp_skel.proofs.laws.variables_of_prefixes.Goals as goal

pub returns-clause-whole : goal.returns-clause-whole
returns-clause-whole c role height x = in-prefix role x height

pub returns-clause-added : goal.returns-clause-added
returns-clause-added c role before height x = in-added role x before height
