use Rattle.std.proofs.Common.{◌∙◌}
use Rattle.std.proofs.lemmas.Result.{on_ok_weaker}
use Rattle.cp_skel.proofs.given_assumptions.add_given.Goals as goal

pub returns : goal.returns
returns c = on_ok_weaker c.append.result (λ e. e ∙ c.in_ok-more.ensures) c.append.ensures.joined
