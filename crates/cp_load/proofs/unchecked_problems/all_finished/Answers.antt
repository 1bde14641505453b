use Rattle.std.proofs.Common.{length, ◌∙◌}
use Rattle.std.proofs.lemmas.Iterator.Adapters.{YieldsList-from_vec}
use Rattle.std.proofs.lemmas.Iterator.Consumers.{YieldsList-turn}
use Rattle.cp_load.proofs.SoundUnchecked.{one_sound}
use Rattle.cp_load.proofs.unchecked_problems.all_finished.Goals as goal

pub finished_entry-requires : goal.finished_entry-requires
finished_entry-requires c =
    let gives = c.into_iter-unchecked-iterator.ensures.into_iter_gives in
    let turn = YieldsList-turn (YieldsList-from_vec {s = c.into_iter-unchecked-iterator.result} c.args.unchecked_entries.items gives.0 (gives.1 ∙ c.args.unchecked_entries.ok.0)) c.loop-unchecked.yielded c.loop-unchecked.unchecked-iterator c.loop-unchecked.yielded_by c.next.result c.next.new.self c.in-Some.unchecked c.in-Some.is c.next.ensures.steps in
    one_sound c.args.unchecked_entries.items (length c.loop-unchecked.yielded) c.in-Some.unchecked c.requires turn.0 turn.1
