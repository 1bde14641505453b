use Rattle.cp_collapse.proofs.OneCollapse.{one_collapse}
use Rattle.cp_collapse.proofs.examples.two_strands_of_one_role_example.Goals as goal

pub returns : goal.returns
returns c = one_collapse
