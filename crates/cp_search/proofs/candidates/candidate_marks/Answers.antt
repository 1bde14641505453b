use Rattle.std.proofs.Common.{map, sym, ap, subst, slice_index_or, None, ◌∙◌}
use Rattle.std.proofs.lemmas.List.{get_or_default}
use Rattle.cp_shapes.specs.Shapes.{AreShapeMarksOf}
use Rattle.cp_search.specs.Candidates.{open_from}
use Rattle.cp_search.proofs.CandidateMarks.{number_within, next_marked}
use Rattle.cp_search.proofs.candidates.candidate_marks.Goals as goal

pub candidate_mark-requires : goal.candidate_mark-requires
candidate_mark-requires c =
    let shapes = c.deref-shape-items.result.now in
    let given = map (λ k. k.now) c.deref.result.now in
    number_within (open_from 0 c.args.made.now c.args.settled.now) c.deref-in-loop-shape.result.now (c.deref-in-loop-shape.ensures.value ∙ c.in_ok-numbers.ensures)
    given (ap (map (λ k. k.now)) c.deref.ensures.value ∙ c.in_ok-skeletons.ensures) shapes (subst (AreShapeMarksOf given) (sym c.deref-shape-items.ensures.value) c.in_ok-shapes.ensures.exact)
    c.loop-shape.shape-index (slice_index_or shapes c.loop-shape.shape-index None) c.loop-shape-test.true (get_or_default shapes c.loop-shape.shape-index _ _ c.loop-shape-test.true)

pub loop-shape-preserved : goal.loop-shape-preserved
loop-shape-preserved c =
    let shapes = c.deref-shape-items.result.now in
    let given = map (λ k. k.now) c.deref.result.now in
    next_marked (open_from 0 c.args.made.now c.args.settled.now) c.deref-in-loop-shape.result.now (c.deref-in-loop-shape.ensures.value ∙ c.in_ok-numbers.ensures)
    given (ap (map (λ k. k.now)) c.deref.ensures.value ∙ c.in_ok-skeletons.ensures) shapes (subst (AreShapeMarksOf given) (sym c.deref-shape-items.ensures.value) c.in_ok-shapes.ensures.exact)
    c.loop-shape.shape-index (slice_index_or shapes c.loop-shape.shape-index None) c.loop-shape-test.true (get_or_default shapes c.loop-shape.shape-index _ _ c.loop-shape-test.true)
    c.loop-shape.marks.items c.push.new.self.items c.candidate_mark.result c.loop-shape.invariant c.candidate_mark.ensures c.in_ok-push.ensures.items
