use Rattle.std.proofs.Common.{map, ap}
use Rattle.std.proofs.lemmas.List.{drop_all}
use Rattle.std.proofs.lemmas.Result.{IfOk-weaker}
use Rattle.cp_fingerprint.specs.SharedValues.{slots_of}
use Rattle.cp_fingerprint.specs.Weights.{weight_beside}
use Rattle.cp_fingerprint.proofs.GrownHeights.{all_made}
use Rattle.cp_fingerprint.proofs.weights.value_weights.Goals as goal

pub returns : goal.returns
returns c =
    let l = c.loop-own in
    let weight = weight_beside c.args.heard.now (slots_of c.args.weights.now) in
    IfOk-weaker c.finish.result _ _ (λ v e. all_made l.made v.items _ _ l.invariant (ap (map weight) (drop_all l.own-index c.args.sums.now c.loop-own-test.false)) e) c.finish.ensures.ok
