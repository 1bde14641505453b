use Rattle.std.proofs.Common.{ℕ, ◌≤◌, take, subst}
use Rattle.std.proofs.lemmas.List.{get_or_default}
use Rattle.cp_lists.proofs.Items.{item_of_read}
use Rattle.cp_hom.specs.PartialMaps.{partial_view}
use Rattle.cp_hom.specs.declared.items.Kind.TheVariants.{Strands}
use Rattle.cp_hom.proofs.FirstChoices.{next_placed, kinds_next}
use Rattle.cp_hom.proofs.first_choices.place_kinds.Goals as goal

pub loop-index-preserved : goal.loop-index-preserved
loop-index-preserved c =
    next_placed c.args.a.now c.args.b.now (partial_view c.args.given) (partial_view c.loop-index.found) (take c.loop-kind.kind-index c.args.kinds.now) _ c.loop-index.index c.loop-index.invariant
    (partial_view c.in-Some.next) (rw c.in-Some.is at c.in_ok-next.ensures)

pub loop-kind-preserved : goal.loop-kind-preserved
loop-kind-preserved c =
    kinds_next c.args.a.now c.args.b.now (partial_view c.args.given) (partial_view c.loop-index.found) c.args.kinds.now c.loop-kind.kind-index _ c.loop-index.index
    (item_of_read c.args.kinds.now c.loop-kind.kind-index _ c.loop-kind-test.true (get_or_default c.args.kinds.now c.loop-kind.kind-index Strands _ c.loop-kind-test.true))
    (subst (λ (n : ℕ). n ≤ c.loop-index.index) c.count-index-end.ensures c.loop-index-test.false) c.loop-index.invariant
