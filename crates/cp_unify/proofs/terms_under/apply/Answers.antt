use Rattle.std.proofs.Common.{◌≡◌, ap, sym, ◌∙◌}
use Rattle.std.proofs.lemmas.Result.{IfOk-weaker}
use Rattle.cp_model.specs.Term.{apply_to, value_of}
use Rattle.cp_model.proofs.LawTerms.{value_after}
use Rattle.cp_unify.specs.Bindings.{as_substitution}
use Rattle.cp_unify.proofs.terms_under.apply.Goals as goal

pub returns-clause-value : goal.returns-clause-value
returns-clause-value c =
    let s = as_substitution c.args.s.now in
    IfOk-weaker _ (λ t. t ≡ apply_to s c.args.term.now) _
    (λ t e g. ap (value_of g) e ∙ sym (value_after g s c.args.term.now))
    c.substituted.ensures

pub returns-then-keeps-clause-value : goal.returns-then-keeps-clause-value
returns-then-keeps-clause-value c =
    IfOk-weaker _ (λ t. t ≡ c.args.term.now) _
    (λ t e g. ap (value_of g) (e ∙ sym (c.keeps.ensures c.if-keeps.true)) ∙ sym (value_after g (as_substitution c.args.s.now) c.args.term.now))
    c.copy.ensures
