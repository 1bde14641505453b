use Rattle.std.proofs.Common.{false, [], ◌∷◌, List, ℕ, ap, ap₂, ◌∙◌}
use Rattle.cp_model.specs.Homomorphism.{substitution_by}
use Rattle.cp_model.specs.Term.{Term, apply_to}
use Rattle.cp_language.specs.Printed.{plain_list, word, term_form}
use Rattle.cp_term.specs.Variables.{variable_of_sort}
use Rattle.cp_print.specs.Named.{named_in}
use Rattle.cp_print.specs.Spelled.{item_text}
use Rattle.cp_print.proofs.SpelledItems.{same_text}
use Rattle.cp_print.proofs.strands.put_maplet.Goals as goal

pub returns-in-Ok : goal.returns-in-Ok
returns-in-Ok c =
    let value = c.in-Ok.ensures ∙ ap (λ n. apply_to (substitution_by c.args.values.now) (variable_of_sort c.args.declared.now.sort n)) c.numbered.ensures in
    same_text (ap₂ (λ (x : List ℕ) (t : Term). item_text false (plain_list (word x ∷ term_form (named_in c.args.naming.now) t ∷ []))) c.as_str.ensures value) c.put_pair.ensures
