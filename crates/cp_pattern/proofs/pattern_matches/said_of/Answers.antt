use Rattle.std.proofs.Common.{sym, ap, ◌∙◌}
use Rattle.std.proofs.lemmas.Result.{IfOk-weaker}
use Rattle.cp_model.specs.Term.{apply_to}
use Rattle.cp_unify.specs.Bindings.{as_substitution}
use Rattle.cp_pattern.proofs.AgreedBindings.{said_exactly}
use Rattle.cp_pattern.proofs.pattern_matches.said_of.Goals as goal

pub returns : goal.returns
returns c =
    let s = as_substitution c.args.from.now in
    let image = c.in_ok-image.ensures.plain ∙ ap (apply_to s) (c.term.ensures.term ∙ sym c.term-2.ensures.term) in
    let found = rw c.in-Some.is at c.in_ok-found.ensures.some in
    IfOk-weaker c.without.result _ _
    (λ r kept. said_exactly c.args.pattern.now s c.locals.result.now c.locals.ensures.variables _ _ _ _ c.bindings.result.now c.term-2.ensures.term image c.new.ensures found c.bindings.ensures r kept)
    c.without.ensures
