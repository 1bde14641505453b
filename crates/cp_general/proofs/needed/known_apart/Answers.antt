use Rattle.std.proofs.lemmas.Result.{IfOk-weaker}
use Rattle.cp_general.proofs.NeededParts.{known_if}
use Rattle.cp_general.proofs.needed.known_apart.Goals as goal

pub returns : goal.returns
returns c =
    IfOk-weaker c.new.result _ _ (λ g is. known_if c.args.part c.in_ok-preceding.preceding c.args.k.now c.args.node c.args.events.now c.kept.result.now c.in_ok-sent.sent.items c.in_ok-secrets.secrets.items g c.in_ok-preceding.ensures c.requires.events c.in_ok-sent.ensures
    c.in_ok-secrets.ensures c.kept.ensures is) c.new.ensures
