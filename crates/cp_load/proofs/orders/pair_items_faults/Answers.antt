use Rattle.std.proofs.Common.{ap, ◌∙◌}
use Rattle.cp_scope.specs.FirstFault.{first_onto}
use Rattle.cp_load.proofs.Cycles.{few_in_pair, pair-read}
use Rattle.cp_load.proofs.NoCycles.{pair-in-front}
use Rattle.cp_load.proofs.orders.pair_items_faults.Goals as goal

pub returns-in_default : goal.returns-in_default
returns-in_default c =
    c.note.ensures ∙ ap (first_onto c.args.first.now) (few_in_pair c.args.before.strands.now c.args.before.pairs.now c.args.place c.args.items.now c.in_default.len_below)

pub returns : goal.returns
returns c =
    pair-read c.args.before.strands.now c.args.before.pairs.now c.args.place c.args.items.now c.earlier-item.result c.later-item.result c.in-len2-up.len_at_least c.earlier-item.is c.later-item.is
    c.list_items.result.now c.list_items-2.result.now c.list_items.ensures c.list_items-2.ensures
    c.args.first.now c.nodes_or_order_faults.new.first c.exceeds.new.first c.exceeds-2.new.first c.exceeds-3.new.first
    c.in_ok-nodes_or_order_faults.ensures c.exceeds.ensures c.exceeds-2.ensures c.exceeds-3.ensures

pub nodes_or_order_faults-requires : goal.nodes_or_order_faults-requires
nodes_or_order_faults-requires c =
    pair-in-front c.args.before.acyclic c.args.before.pairs.now c.args.items.now c.earlier-item.result c.later-item.result c.in-len2-up.len_at_least c.earlier-item.is c.later-item.is c.requires
