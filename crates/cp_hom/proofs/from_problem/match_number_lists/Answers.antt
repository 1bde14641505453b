use Rattle.std.proofs.Common.{arith}
use Rattle.std.proofs.lemmas.List.{get_or_default}
use Rattle.cp_hom.specs.PartialMaps.{partial_view}
use Rattle.cp_hom.proofs.Counterparts.{lists_next, lists_never, lists_all}
use Rattle.cp_hom.proofs.from_problem.match_number_lists.Goals as goal

pub returns-in-None : goal.returns-in-None
returns-in-None c =
    lists_never (λ f. f.strands) c.args.strands.now c.args.others.now c.loop-index.index _ _ (partial_view c.args.given) (partial_view c.loop-index.found) c.loop-index-test.true c.if-strands-others.false
    (get_or_default c.args.strands.now c.loop-index.index 0 _ c.loop-index-test.true)
    (get_or_default c.args.others.now c.loop-index.index 0 _ (omega (arith, c.loop-index-test.true, c.if-strands-others.false)))
    c.loop-index.invariant (rw c.in-None.is at c.in_ok-next.ensures)

pub loop-index-preserved : goal.loop-index-preserved
loop-index-preserved c =
    lists_next (λ f. f.strands) c.args.strands.now c.args.others.now c.loop-index.index _ _ (partial_view c.args.given) (partial_view c.loop-index.found) (partial_view c.in-Some.next) c.loop-index-test.true c.if-strands-others.false
    (get_or_default c.args.strands.now c.loop-index.index 0 _ c.loop-index-test.true)
    (get_or_default c.args.others.now c.loop-index.index 0 _ (omega (arith, c.loop-index-test.true, c.if-strands-others.false)))
    c.loop-index.invariant (rw c.in-Some.is at c.in_ok-next.ensures)

pub returns : goal.returns
returns c =
    lists_all (λ f. f.strands) c.args.strands.now c.args.others.now c.loop-index.index (partial_view c.args.given) (partial_view c.loop-index.found) c.loop-index-test.false c.if-strands-others.false c.loop-index.invariant
