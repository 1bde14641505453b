use Rattle.std.proofs.Common.{rules}
use Rattle.std.proofs.lemmas.List.Sorted.{answers_always}
use Rattle.cp_order.proofs.PairsInOrder.{key_of, sorted-by-key}
use Rattle.cp_order.proofs.predecessors.SortedPairs.new.Goals as goal

pub invariant_of-result : goal.invariant_of-result
invariant_of-result c = (
  sorted-by-key _ (c.in_ok-sort_by_key.ensures.sorted key_of (answers_always _ _ _ (λ f a r g h. search rules))),
  search rules,
)
