use Rattle.std.proofs.lemmas.Result.{IfOk-weaker}
use Rattle.cp_search.proofs.AllowedCopies.{seen_living}
use Rattle.cp_search.proofs.labels.MadeLabels.seen_in.Goals as goal

pub returns : goal.returns
returns c = IfOk-weaker c.first_copy.result _ _ (seen_living c.args.self.now c.args.made.now c.if-made.false) c.first_copy.ensures
