use Rattle.cp_model.specs.Term.{apply_to}
use Rattle.cp_hom.specs.PartialMaps.{partial_view}
use Rattle.cp_hom.proofs.Counterparts.{lists_next, lists_never, lists_all}
use Rattle.cp_hom.proofs.from_problem.match_term_lists.Goals as goal

pub returns-in-None : goal.returns-in-None
returns-in-None c =
    lists_never (λ f. apply_to f.terms) c.args.terms.now c.args.others.now c.loop-index.index c.index-terms-index.result c.index-others-index.result (partial_view c.args.given) (partial_view c.loop-index.found)
    c.loop-index-test.true c.if-terms-others.false c.index-terms-index.is c.index-others-index.is c.loop-index.invariant (rw c.in-None.is at c.in_ok-next.ensures)

pub loop-index-preserved : goal.loop-index-preserved
loop-index-preserved c =
    lists_next (λ f. apply_to f.terms) c.args.terms.now c.args.others.now c.loop-index.index c.index-terms-index.result c.index-others-index.result (partial_view c.args.given) (partial_view c.loop-index.found) (partial_view c.in-Some.next)
    c.loop-index-test.true c.if-terms-others.false c.index-terms-index.is c.index-others-index.is c.loop-index.invariant (rw c.in-Some.is at c.in_ok-next.ensures)

pub returns : goal.returns
returns c =
    lists_all (λ f. apply_to f.terms) c.args.terms.now c.args.others.now c.loop-index.index (partial_view c.args.given) (partial_view c.loop-index.found) c.loop-index-test.false c.if-terms-others.false c.loop-index.invariant
