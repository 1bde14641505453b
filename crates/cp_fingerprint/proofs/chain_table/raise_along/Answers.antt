use Rattle.std.proofs.Common.{◌≡◌, ◌<◌, ◌+◌, ℕ, length, get_or, ap, ◌∙◌, arith}
use Rattle.cp_fingerprint.specs.SharedValues.{kept}
use Rattle.cp_fingerprint.specs.ChainTable.{weight_in}
use Rattle.cp_fingerprint.proofs.ChainRounds.{not_raised, is_raised}
use Rattle.cp_fingerprint.proofs.chain_table.raise_along.Goals as goal

pub returns-then-number_at-weight : goal.returns-then-number_at-weight
returns-then-number_at-weight c =
    let weight : c.saturating_add-weight.result ≡ kept (weight_in c.args.starts.now c.args.weights.now c.args.pair.earlier + 1) = c.saturating_add-weight.ensures ∙ ap (λ n. kept (n + 1)) c.weight_in.ensures in
    let stands = c.number_at.ensures ∙ ap (λ (n : ℕ). get_or c.args.weights.now n 0) c.place_in-place.ensures in
    not_raised c.args.starts.now c.args.pair c.args.weights.now (omega (arith, weight, stands, c.if-number_at-weight.true))

pub returns : goal.returns
returns c =
    let there_is : c.place_in-place.result < length c.args.weights.now = omega (arith, c.requires.within, c.place_in-place.ensures) in
    is_raised c.args.starts.now c.args.pair c.args.weights.now c.saturating_add-weight.result c.place_in-place.result (c.saturating_add-weight.ensures ∙ ap (λ n. kept (n + 1)) c.weight_in.ensures) c.place_in-place.ensures there_is
    (omega (arith, c.if-number_at-weight.false, c.number_at.ensures))
