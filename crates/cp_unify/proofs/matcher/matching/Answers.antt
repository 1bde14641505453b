use Rattle.std.proofs.Common.{◌≡◌, Some}
use Rattle.std.proofs.lemmas.Result.{IfOk-weaker}
use Rattle.cp_unify.specs.Matched.{is_listed, matched}
use Rattle.cp_unify.proofs.MatchedTerms.{match_some, match_occur, match_none}
use Rattle.cp_unify.proofs.matcher.matching.Goals as goal

pub returns-clause-some : goal.returns-clause-some
returns-clause-some c =
    IfOk-weaker c.match_beside.result (λ found. found ≡ matched (is_listed (Some c.args.locals.now)) c.args.pattern.now c.args.term.now c.new.result) _
    (λ found. match_some c.args.pattern.now c.args.term.now c.args.locals.now c.new.result found c.new.ensures) c.match_beside.ensures

pub returns-clause-occur : goal.returns-clause-occur
returns-clause-occur c =
    IfOk-weaker c.match_beside.result (λ found. found ≡ matched (is_listed (Some c.args.locals.now)) c.args.pattern.now c.args.term.now c.new.result) _
    (λ found. match_occur c.args.pattern.now c.args.term.now c.args.locals.now c.new.result found c.new.ensures) c.match_beside.ensures

pub returns-clause-none : goal.returns-clause-none
returns-clause-none c =
    IfOk-weaker c.match_beside.result (λ found. found ≡ matched (is_listed (Some c.args.locals.now)) c.args.pattern.now c.args.term.now c.new.result) _
    (λ found. match_none c.args.pattern.now c.args.term.now c.args.locals.now c.new.result found c.new.ensures) c.match_beside.ensures
