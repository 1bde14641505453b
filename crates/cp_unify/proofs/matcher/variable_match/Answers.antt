use Rattle.std.proofs.Common.{sym, ◌∙◌}
use Rattle.std.specs.Option.{option_map}
use Rattle.cp_unify.specs.Matched.{is_listed}
use Rattle.cp_unify.proofs.MatchedTerms.{own_found}
use Rattle.cp_unify.proofs.matcher.variable_match.Goals as goal

pub returns-then-not-is_local : goal.returns-then-not-is_local
returns-then-not-is_local c =
    own_found c.args.sort c.args.variable _ (is_listed (option_map (λ xs. xs.now) c.args.locals)) c.args.found.now _ c.is_variable.ensures
    (sym c.is_local.ensures ∙ c.if-not-is_local.true)
