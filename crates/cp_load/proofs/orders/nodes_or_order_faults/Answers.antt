use Rattle.std.proofs.Common.{ap, ◌∙◌}
use Rattle.std.proofs.lemmas.Result.{on_ok_weaker}
use Rattle.cp_sexpr.specs.View.{view}
use Rattle.cp_language.specs.Problems.{node_of, node_faults, pair_of_nodes, order_faults}
use Rattle.cp_scope.specs.FirstFault.{first_onto}
use Rattle.cp_load.proofs.Cycles.{nodes-there, nodes-faulty}
use Rattle.cp_load.proofs.orders.nodes_or_order_faults.Goals as goal

pub returns-then-is_none : goal.returns-then-is_none
returns-then-is_none c =
    let strands = c.args.before.strands.now in
    let f = view c.args.earlier.now in
    let g = view c.args.later.now in
    let others = order_faults strands c.args.before.pairs.now c.args.place f g (pair_of_nodes (node_of f) (node_of g)) in
    let first = c.node_faults.ensures ∙ ap (λ o. first_onto o (node_faults strands f)) c.new-inside.ensures in
    on_ok_weaker c.order_faults.result
    (λ h. nodes-there c.args.first.now c.node_faults.new.first c.node_faults-2.new.first c.order_faults.new.first c.is_none.result (node_faults strands f) (node_faults strands g) others first c.node_faults-2.ensures c.is_none.ensures
    c.if-is_none.true h)
    c.order_faults.ensures

pub returns : goal.returns
returns c =
    let strands = c.args.before.strands.now in
    let f = view c.args.earlier.now in
    let g = view c.args.later.now in
    let others = order_faults strands c.args.before.pairs.now c.args.place f g (pair_of_nodes (node_of f) (node_of g)) in
    let first = c.node_faults.ensures ∙ ap (λ o. first_onto o (node_faults strands f)) c.new-inside.ensures in
    nodes-faulty c.args.first.now c.node_faults.new.first c.node_faults-2.new.first c.merge.new.self c.is_none.result (node_faults strands f) (node_faults strands g) others first c.node_faults-2.ensures c.is_none.ensures
    c.if-is_none.false c.merge.ensures
