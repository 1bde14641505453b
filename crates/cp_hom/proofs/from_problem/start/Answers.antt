use Rattle.std.proofs.Common.{◌≡◌, map, ap, subst, ◌∙◌}
use Rattle.std.proofs.lemmas.Result.{IfOk-weaker}
use Rattle.cp_model.specs.Term.{apply_to}
use Rattle.cp_model.specs.Skeleton.{FromProblem}
use Rattle.cp_hom.specs.PartialMaps.{PartialMap, partial_view, IsExtended, FindsMaps}
use Rattle.cp_hom.proofs.Counterparts.{problem_kept}
use Rattle.cp_hom.proofs.from_problem.start.Goals as goal

pub returns-in-Some : goal.returns-in-Some
returns-in-Some c =
    IfOk-weaker c.match_term_lists.result (FindsMaps (λ f. map (apply_to f.terms) c.values.result.now ≡ c.values-in-Some.result.now) (partial_view c.in-Some.found)) _
    (λ answer. problem_kept c.args.a.now c.args.b.now c.strands.result.now c.strands-2.result.now c.values.result.now c.values-in-Some.result.now _ (partial_view c.in-Some.found) answer
    (c.strands.ensures ∙ ap (λ (p : FromProblem). p.strands) c.from_problem-first.ensures) (c.strands-2.ensures ∙ ap (λ (p : FromProblem). p.strands) c.from_problem-second.ensures)
    (c.values.ensures ∙ ap (λ (p : FromProblem). p.values) c.from_problem-first.ensures) (c.values-in-Some.ensures ∙ ap (λ (p : FromProblem). p.values) c.from_problem-second.ensures)
    (subst (λ (g : PartialMap). IsExtended (λ f. map f.strands c.strands.result.now ≡ c.strands-2.result.now) g (partial_view c.in-Some.found)) c.new.ensures (rw c.in-Some.is at c.in_ok-found.ensures)))
    c.match_term_lists.ensures
