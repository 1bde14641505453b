use Rattle.std.proofs.lemmas.List.{get_or_default}
use Rattle.cp_spelled.proofs.GatheredLocals.{clash-taken, onto-taken}
use Rattle.cp_spelled.proofs.locals.locals_of.Goals as goal

pub loop-next-preserved : goal.loop-next-preserved
loop-next-preserved c =
    let more = c.in_ok-add.ensures in (
      clash-taken c.args.found.now c.loop-next.next-index _ c.loop-next-test.true (get_or_default c.args.found.now c.loop-next.next-index _ _ c.loop-next-test.true)
          c.loop-next.locals c.add.new.self c.loop-next.first c.note_unless.new.self _ c.keeps_sort.result more c.keeps_sort.ensures c.note_unless.ensures c.loop-next.invariant.0,
      onto-taken c.args.found.now c.loop-next.next-index _ c.loop-next-test.true (get_or_default c.args.found.now c.loop-next.next-index _ _ c.loop-next-test.true)
          c.loop-next.locals c.add.new.self _ more c.loop-next.invariant.1,
    )
