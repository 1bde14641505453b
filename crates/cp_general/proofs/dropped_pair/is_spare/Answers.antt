use Rattle.std.proofs.Common.{rules, ◌≡◌, ap, sym, ◌∙◌}
use Rattle.std.specs.Prelude.{not}
use Rattle.cp_lists.proofs.Collected.{if_mapped}
use Rattle.cp_model.specs.Skeleton.{FromProblem}
use Rattle.cp_general.proofs.Dropped.{own_never, added_never}
use Rattle.cp_general.proofs.FitTests.{was_true}
use Rattle.cp_general.proofs.dropped_pair.is_spare.Goals as goal
use Rattle.cp_general.proofs.dropped_pair.is_spare.Goals.{then-is_among-via-then-is_among, then-is_among-via-else-is_among+then-is_among-2}

pub returns-then-is_among : goal.returns-then-is_among
returns-then-is_among c =
    let p = c.args.pair in
    let k = c.args.k.now in
    elim c.then-is_among.branch [
      | then-is_among-via-then-is_among w ↦ λ _. own_never p k c.pairs.result.now _ (c.pairs.ensures ∙ ap (λ (f : FromProblem). f.pairs) c.from_problem.ensures) c.is_among.ensures w.if-is_among.true
      | then-is_among-via-else-is_among+then-is_among-2 w ↦ λ _. added_never p k c.args.added.now _ c.requires.added w.is_among-else-is_among.ensures w.if-is_among-2.true
    ]

pub returns : goal.returns
returns c =
    if_mapped c.is_needed.result c.map.result (λ needed spare tells k.
    let told : spare ≡ not needed = search rules in
    λ f. tells (was_true needed (sym told ∙ f))) c.is_needed.ensures c.map.ensures.cases
