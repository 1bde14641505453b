use Rattle.std.proofs.Common.{sym, ap, ◌∙◌}
use Rattle.cp_model.specs.Term.{asymmetric_term, apply_to}
use Rattle.cp_term.proofs.substitution.leaf_under.Goals as goal

pub returns-in_ok-inverse-in-Some-term_for : goal.returns-in_ok-inverse-in-Some-term_for
returns-in_ok-inverse-in-Some-term_for g c =
    let s = g.V.Valuation.substitution c.args.values.now in
    let n = c.in-Inverse.variable in
    c.in_ok-inverse-in-Some-term_for.ensures.plain (asymmetric_term (s.akeys n).0 (s.akeys n).1) (sym c.in-Some-term_for.ensures)
    ∙ sym (ap (apply_to s) c.in-Inverse.ensures)
