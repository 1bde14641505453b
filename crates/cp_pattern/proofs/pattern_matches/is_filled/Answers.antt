use Rattle.std.proofs.Common.{rules, ◌≡◌}
use Rattle.std.specs.Prelude.{is_some}
use Rattle.cp_unify.specs.Bindings.{as_substitution}
use Rattle.cp_pattern.proofs.BothMapped.{if_both_mapped}
use Rattle.cp_pattern.proofs.Matched.{tells_filled}
use Rattle.cp_pattern.proofs.pattern_matches.is_filled.Goals as goal

pub returns : goal.returns
returns c =
    if_both_mapped c.matching_beside.result c.map.result (λ found answer some none k.
    let told : answer ≡ is_some found = search rules in
    tells_filled c.args.pattern.now (as_substitution c.args.from.now) c.args.term.now c.in_ok-said.said c.in_ok-said.ensures c.term.result.now c.term.ensures.term found answer told some none) c.matching_beside.ensures.some c.matching_beside.ensures.none c.map.ensures.cases
