use Rattle.std.proofs.Common.{◌≡◌, ◌≤◌, ◌∙◌, List, [], ◌∷◌, length, get_or, ap₂, arith}
use Rattle.std.proofs.lemmas.Result.{IfOk-weaker}
use Rattle.cp_model.specs.Term.{Term, symmetric_term, ltk_term}
use Rattle.cp_language.specs.Terms.{as_name, long_term}
use Rattle.cp_term.specs.Keys.{key_as_term}
use Rattle.cp_scope.proofs.terms.long_term.Goals as goal

of_two : (ts : List Term) (a b : Term) → 2 ≤ length ts → a ≡ get_or ts 0 a → b ≡ get_or ts 1 b → key_as_term (symmetric_term (ltk_term (as_name a) (as_name b))) ≡ long_term ts
of_two [] a b l e f = absurd (omega arith)
of_two (x ∷ []) a b l e f = absurd (omega arith)
of_two (x ∷ y ∷ ts) a b l e f = ap₂ (λ t u. key_as_term (symmetric_term (ltk_term (as_name t) (as_name u)))) e f

pub returns-in_ok-name_term-in-len2-up : goal.returns-in_ok-name_term-in-len2-up
returns-in_ok-name_term-in-len2-up c =
    IfOk-weaker c.ltk.result _ _
    (λ t h. h (as_name c.first-item.result) (as_name c.second-item.result) c.in_ok-first-in-len2-up.ensures c.in_ok-name_term-in-len2-up.ensures
    ∙ of_two c.args.terms.now c.first-item.result c.second-item.result c.in-len2-up.len_at_least c.first-item.is c.second-item.is)
    c.ltk.ensures.plain
