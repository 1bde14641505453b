use Rattle.std.proofs.Common.{◌<◌, ℕ, subst}
use Rattle.cp_hom.specs.PartialMaps.{partial_view}
use Rattle.cp_hom.proofs.NoChoice.{none_taken}
use Rattle.cp_hom.proofs.known.has_no_choice.Goals as goal

pub returns-then-is_none : goal.returns-then-is_none
returns-then-is_none c =
    λ _.
    none_taken c.args.a.now c.args.b.now c.loop-index.index (partial_view c.args.given.now) c.next_choice.result c.is_none.result c.is_none.ensures c.if-is_none.true
    (subst (λ (n : ℕ). c.loop-index.index < n) c.count-index-end.ensures c.loop-index-test.true) c.next_choice.ensures
