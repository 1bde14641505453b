-- A pattern's form by the locals that were found.
use Rattle.std.proofs.Common.{◌≡◌, List, [], ap, ◌∙◌}
use Rattle.cp_model.specs.Term.{Term, variables_of}
use Rattle.cp_model.specs.declared.variable.Variable.{Variable}
use Rattle.cp_model.specs.Tree.{Pattern}
use Rattle.cp_sexpr.specs.Syntax.{Form}
use Rattle.cp_language.specs.Printed.{term_form, pattern_form, local_or_name, place_among, locals_in_order}

pub as_pattern : (named : Variable → Form) (p : Pattern) (t : Term) (found : List Variable) → t ≡ p.term → found ≡ locals_in_order p.locals [] (variables_of p.term)
    → term_form (λ x. local_or_name named x (place_among 0 found x)) t ≡ pattern_form named p
as_pattern named p t found e f =
    ap (term_form (λ x. local_or_name named x (place_among 0 found x))) e
    ∙ ap (λ ls. term_form (λ x. local_or_name named x (place_among 0 ls x)) p.term) f
