use Rattle.std.proofs.Common.{List, [], ◌∷◌, ◌++◌, ap, ◌∙◌}
use Rattle.cp_model.specs.Term.{skey_variable, symmetric_term, enc_term}
use Rattle.cp_model.specs.declared.variable.Variable.{Variable}
use Rattle.cp_term.specs.Variables.{variable_of_sort}
use Rattle.cp_model.specs.declared.sort.Sort.TheVariants.{Text, Skey}
use Rattle.cp_term.proofs.LocalVariables.{text_under_key_is_pattern}
use Rattle.cp_tests.proofs.terms.pattern.Goals as goal

pub new-requires : goal.new-requires
new-requires c =
    text_under_key_is_pattern c.in_ok-term.term c.push.new.self
    (c.in_ok-term.ensures.plain (symmetric_term (skey_variable 1)) (c.in_ok-key.ensures.plain ∙ ap (variable_of_sort Skey) c.numbered-2.ensures)
    ∙ ap (λ b. enc_term b (symmetric_term (skey_variable 1))) (c.in_ok-text.ensures.plain ∙ ap (variable_of_sort Text) c.numbered.ensures))
    (c.in_ok-push.ensures.ok ∙ ap (λ (xs : List Variable). xs ++ record { sort = Text; number = 0 } ∷ []) c.new-locals.ensures)
