use Rattle.std.proofs.Common.{◌++◌, sym, ap, ◌∙◌, subst}
use Rattle.cp_sexpr.specs.View.{view}
use Rattle.cp_language.specs.Problems.{node_of, pair_of_nodes, between_strands}
use Rattle.cp_load.specs.Acyclic.{IsAcyclicIf}
use Rattle.cp_load.proofs.Cycles.{behind-fault}
use Rattle.cp_load.proofs.orders.order_faults.Goals as goal

pub closes_cycle-requires : goal.closes_cycle-requires
closes_cycle-requires c =
    let is =
    ap (λ o. pair_of_nodes o (node_of (view c.args.stated.later.now))) (sym c.node_of.ensures) ∙ ap (pair_of_nodes c.node_of.result) (sym c.node_of-2.ensures)
    ∙ sym c.pair_of_nodes.ensures ∙ c.in-Some.is in
    subst (λ o. IsAcyclicIf c.args.before.acyclic (c.args.before.pairs.now ++ between_strands o)) is c.requires

pub returns-then-is_behind_fault : goal.returns-then-is_behind_fault
returns-then-is_behind_fault c =
    let f = view c.args.stated.earlier.now in
    let g = view c.args.stated.later.now in
    behind-fault c.args.first.now c.args.before.strands.now c.args.before.pairs.now c.args.stated.place f g (pair_of_nodes (node_of f) (node_of g))
    (sym c.is_behind_fault.ensures ∙ c.if-is_behind_fault.true)
