use Rattle.std.proofs.Common.{ap, ◌∙◌}
use Rattle.cp_model.specs.Skeleton.{skeleton_trace}
use Rattle.cp_skel.proofs.EventLists.{event_added, event_there}
use Rattle.cp_skel.proofs.events.add_made.Goals as goal
use Rattle.cp_skel.proofs.events.add_made.Goals.{in-Some+in_ok-push, in_default}

pub loop-index-preserved : goal.loop-index-preserved
loop-index-preserved c =
    elim c.match-branch-2.branch [
      | in-Some+in_ok-push w ↦
          event_added c.args.number c.loop-index.index c.args.by_role (skeleton_trace c.args.strand.now) _ w.in-Some.event
          c.loop-index.occurrences.items _ _ c.in_ok-event.ensures w.in-Some.is
          (ap (λ os. os.items) w.occurrences-is ∙ w.in_ok-push.ensures.items)
          c.loop-index.invariant
      | in_default w ↦ absurd (event_there _ _ (skeleton_trace c.args.strand.now) _ c.in_ok-event.ensures c.loop-index-test.true c.event_count-index-end.ensures w.in_default.not-Some)
    ]
