use Rattle.std.proofs.lemmas.List.{get_or_default}
use Rattle.cp_spelled.proofs.Stated.{variables-taken}
use Rattle.cp_spelled.proofs.patterns.variables_of_locals.Goals as goal

pub loop-place-preserved : goal.loop-place-preserved
loop-place-preserved c =
    variables-taken c.args.count c.args.locals.now c.loop-place.place _ c.loop-place-test.true (get_or_default c.args.locals.now c.loop-place.place _ _ c.loop-place-test.true)
    c.loop-place.found c.push.new.self _ c.in_ok-number.number c.in_ok-number.ensures c.in_ok-push.ensures.ok c.loop-place.invariant
