use Rattle.std.proofs.lemmas.Result.{IfOk-weaker}
use Rattle.cp_normal.specs.Leaves.{of_item}
use Rattle.cp_normal.proofs.rewriting.leaves.Goals as goal

pub returns : goal.returns
returns g c = IfOk-weaker c.each_leaves.result _ _ (λ leaves each. of_item c.in_ok-candidates.ensures each) c.each_leaves.ensures
