use Rattle.std.proofs.Common.{◌≡◌, None}
use Rattle.std.proofs.lemmas.Result.{IfOk-weaker}
use Rattle.cp_unify.specs.Matched.{is_listed, matched}
use Rattle.cp_unify.proofs.MatchedTerms.{beside_some, beside_none}
use Rattle.cp_unify.proofs.matcher.matching_beside.Goals as goal

pub returns-clause-some : goal.returns-clause-some
returns-clause-some c =
    IfOk-weaker c.match_beside.result (λ found. found ≡ matched (is_listed None) c.args.pattern.now c.args.term.now c.args.given) _
    (λ found. beside_some _ _ _ found) c.match_beside.ensures

pub returns-clause-none : goal.returns-clause-none
returns-clause-none c =
    IfOk-weaker c.match_beside.result (λ found. found ≡ matched (is_listed None) c.args.pattern.now c.args.term.now c.args.given) _
    (λ found. beside_none _ _ _ found) c.match_beside.ensures
