use Rattle.std.proofs.Common.{◌∙◌, drop}
use Rattle.std.proofs.lemmas.List.{drop_all}
use Rattle.cp_fingerprint.proofs.FoundInTurn.{pass_ends}
use Rattle.cp_fingerprint.proofs.heights.find_in_turn.Goals as goal

pub returns : goal.returns
returns c =
    pass_ends c.loop-other.left.now (drop c.loop-other.other-index c.args.others.now) c.is_empty.result (drop_all c.loop-other.other-index c.args.others.now c.loop-other-test.false) c.is_empty.ensures
    ∙ c.loop-other.invariant
