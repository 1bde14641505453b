use Rattle.std.proofs.Common.{◌≡◌, sym}
use Rattle.std.proofs.lemmas.Result.{IfOk-weaker}
use Rattle.cp_model.specs.Term.{apply_to}
use Rattle.cp_model.specs.Values.{substitution_by}
use Rattle.cp_term.specs.Variables.{variable_of_sort}
use Rattle.cp_hom.specs.PartialMaps.{partial_view, FindsMaps}
use Rattle.cp_hom.proofs.Counterparts.{value_matched}
use Rattle.cp_hom.proofs.strand_matches.match_variable.Goals as goal

pub returns-in-Some-Some : goal.returns-in-Some-Some
returns-in-Some-Some c =
    IfOk-weaker c.match_terms.result (FindsMaps (λ f. apply_to f.terms c.in-Some-Some.first.now ≡ c.in-Some-Some.second.now) (partial_view c.args.given)) _
    (λ answer. value_matched (substitution_by c.args.from.now) (substitution_by c.args.to.now) (variable_of_sort c.args.sort c.args.id) c.in-Some-Some.first.now c.in-Some-Some.second.now
    (partial_view c.args.given) answer (sym c.in-Some-Some.ensures) (sym c.in-Some-Some.ensures'))
    c.match_terms.ensures

pub returns : goal.returns
returns c =
    IfOk-weaker c.match_terms-2.result (FindsMaps (λ f. apply_to f.terms c.in_ok-first.first ≡ c.in_ok-second.second) (partial_view c.args.given)) _
    (λ answer. value_matched (substitution_by c.args.from.now) (substitution_by c.args.to.now) (variable_of_sort c.args.sort c.args.id) c.in_ok-first.first c.in_ok-second.second
    (partial_view c.args.given) answer c.in_ok-first.ensures c.in_ok-second.ensures)
    c.match_terms-2.ensures
