use Rattle.std.proofs.lemmas.Result.{IfOk-weaker}
use Rattle.std.specs.Option.{option_map}
use Rattle.cp_unify.specs.Matched.{is_listed}
use Rattle.cp_unify.proofs.MatchedTerms.{asymmetric_of, not_akey, asymmetric_is_key, inverse_matched}
use Rattle.cp_unify.proofs.matcher.inverse_match.Goals as goal

pub returns-then-not-is_of_sort : goal.returns-then-not-is_of_sort
returns-then-not-is_of_sort c = not_akey c.args.term.now c.args.variable (is_listed (option_map (λ xs. xs.now) c.args.locals)) c.args.found.now _ c.is_of_sort.ensures c.if-not-is_of_sort.true

pub invert-requires : goal.invert-requires
invert-requires c = asymmetric_is_key _ (asymmetric_of _ _ c.is_of_sort.ensures c.if-not-is_of_sort.false)

pub returns : goal.returns
returns c =
    IfOk-weaker c.variable_match.result _ _
    (λ same. inverse_matched _ _ c.args.variable (is_listed (option_map (λ xs. xs.now) c.args.locals)) c.args.found.now _ (asymmetric_of _ _ c.is_of_sort.ensures c.if-not-is_of_sort.false) c.in_ok-inverse.ensures.plain)
    c.variable_match.ensures
