use Rattle.std.proofs.Common.{map, option_map}
use Rattle.cp_sexpr.specs.View.{view}
use Rattle.cp_load.proofs.NodeFaults.{two-read}
use Rattle.cp_load.proofs.nodes.two_number_faults.Goals as goal

pub returns : goal.returns
returns c =
    two-read (map view c.args.items.now) (option_map (λ f. view f.now) c.item_at.result) (option_map (λ f. view f.now) c.item_at-2.result) c.args.first.now c.number_faults.new.first c.number_faults-2.new.first
    c.item_at.ensures c.item_at-2.ensures c.number_faults.ensures c.number_faults-2.ensures
