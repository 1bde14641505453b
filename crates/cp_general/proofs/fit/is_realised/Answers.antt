use Rattle.std.proofs.Common.{rules, ◌≡◌}
use Rattle.std.specs.Prelude.{◌==◌}
use Rattle.std.specs.Vec.{vec_len}
use Rattle.cp_lists.proofs.Collected.{if_mapped}
use Rattle.cp_general.proofs.FitTests.{realised_if}
use Rattle.cp_general.proofs.fit.is_realised.Goals as goal

pub returns : goal.returns
returns c =
    if_mapped c.unrealised.result c.map.result (λ nodes realised lists k.
    let told : realised ≡ (vec_len nodes == 0) = search rules in
    realised_if c.args.k.now nodes.items (vec_len nodes) realised lists nodes.ok.0 told) c.unrealised.ensures.listed c.map.ensures.cases
