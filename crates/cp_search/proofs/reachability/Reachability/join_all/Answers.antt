use Rattle.std.proofs.Common.{◌≡◌, get_or}
use Rattle.cp_lists.specs.Lists.{IsIn}
use Rattle.cp_lists.proofs.Members.{item_in}
use Rattle.cp_search.proofs.JoinedRows.{next_joined, all_joined, to_targets, still_has_row, still_has_column}
use Rattle.cp_search.proofs.reachability.Reachability.join_all.Goals as goal

pub join-requires-clause-from : goal.join-requires-clause-from
join-requires-clause-from c =
    let source = get_or c.args.sources.now c.loop-source.source-index 0 in
    still_has_row _ c.loop-source.self c.loop-target.self c.loop-target.invariant source
    (still_has_row _ c.args.self.now c.loop-source.self c.loop-source.invariant source (c.requires.sources source (item_in c.args.sources.now c.loop-source.source-index 0 c.loop-source-test.true)))

pub join-requires-clause-to : goal.join-requires-clause-to
join-requires-clause-to c =
    let target = get_or c.args.targets.now c.loop-target.target-index 0 in
    still_has_column _ c.loop-source.self c.loop-target.self c.loop-target.invariant target
    (still_has_column _ c.args.self.now c.loop-source.self c.loop-source.invariant target (c.requires.targets target (item_in c.args.targets.now c.loop-target.target-index 0 c.loop-target-test.true)))

pub loop-target-preserved : goal.loop-target-preserved
loop-target-preserved c =
    next_joined (λ k n m. (get_or c.args.sources.now c.loop-source.source-index 0 ≡ n) × (k ≡ m)) c.args.targets.now c.loop-target.target-index c.loop-target-test.true
    c.loop-source.self c.loop-target.self c.join.new.self c.loop-target.invariant c.in_ok-join.ensures

pub loop-source-preserved : goal.loop-source-preserved
loop-source-preserved c =
    let source = get_or c.args.sources.now c.loop-source.source-index 0 in
    let targets = c.args.targets.now in
    next_joined (λ k n m. (k ≡ n) × IsIn m targets) c.args.sources.now c.loop-source.source-index c.loop-source-test.true c.args.self.now c.loop-source.self c.loop-target.self c.loop-source.invariant
    (to_targets source targets c.loop-source.self c.loop-target.self
    (all_joined (λ k n m. (source ≡ n) × (k ≡ m)) targets c.loop-target.target-index c.loop-target-test.false c.loop-source.self c.loop-target.self c.loop-target.invariant))
