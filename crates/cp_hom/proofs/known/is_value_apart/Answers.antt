use Rattle.std.proofs.Common.{sym, ap, ◌∙◌}
use Rattle.cp_model.specs.Term.{apply_to}
use Rattle.cp_hom.proofs.known.is_value_apart.Goals as goal

pub returns-in-Some-Some : goal.returns-in-Some-Some
returns-in-Some-Some c = λ known f follows w. c.is_apart.ensures known f follows (ap (apply_to f.terms) (sym c.in-Some-Some.ensures) ∙ w ∙ c.in-Some-Some.ensures')
