use Rattle.std.proofs.Common.{rules, ◌≡◌, ◌++◌, List, OnOk, subst}
use Rattle.std.proofs.lemmas.List.Sorted.{IsPartitionPoint-from_clause}
use Rattle.cp_model.specs.declared.node.Node.{Node}
use Rattle.cp_order.specs.Sorted.{is_passed}
use Rattle.cp_order.proofs.PairsInOrder.{partitioned, reached-together}
use Rattle.cp_order.proofs.predecessors.push_reached.Goals as goal

pub returns : goal.returns
returns c =
    subst (λ (xs : List Node). OnOk c.push_first.result (c.push_first.new.work.items ≡ c.args.work.now.items ++ xs))
    (reached-together c.args.top c.args.node c.args.pairs.now c.requires c.partition_point-start.result
    (IsPartitionPoint-from_clause (λ p. is_passed c.args.top c.args.node.strand p.later) _ _ c.partition_point-start.ensures.partitioned
    (partitioned c.args.top c.args.node.strand c.args.pairs.now c.requires) (λ a r q k. search rules)))
    c.push_first.ensures
