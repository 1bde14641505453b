use Rattle.cp_printable.proofs.SameTrees.{same_true}
use Rattle.cp_printable.proofs.alike.same_trees_are_true_alike.Goals as goal

pub returns : goal.returns
returns c = λ protocol problem variables limits t u own pairs is same. same_true protocol problem variables own limits t u pairs is same
