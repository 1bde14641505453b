use Rattle.std.proofs.Common.{sym, ap, ◌∙◌}
use Rattle.std.proofs.lemmas.Result.{IfOk-weaker}
use Rattle.cp_language.specs.Terms.{all_but_last, last_of, as_key, key_as_term}
use Rattle.cp_scope.proofs.PairedTerms.{all_but_last-append, last_of-append}
use Rattle.cp_scope.proofs.terms.pop_key.Goals as goal

pub returns-in-Some : goal.returns-in-Some
returns-in-Some c =
    let last = ap last_of c.in-Some.ensures.items ∙ last_of-append c.pop.new.self.items c.in-Some.last in
    let front = ap all_but_last c.in-Some.ensures.items ∙ all_but_last-append c.pop.new.self.items c.in-Some.last in
    IfOk-weaker c.key_term.result _ _ (λ k h. (h ∙ ap (λ t. key_as_term (as_key t)) (sym last), sym front)) c.key_term.ensures
