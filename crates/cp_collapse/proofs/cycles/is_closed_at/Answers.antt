use Rattle.std.proofs.Common.{rules, ◌↔◌, IsTrue, sym, subst}
use Rattle.cp_lists.proofs.Collected.{if_mapped}
use Rattle.cp_order.specs.PredecessorNodes.{Target}
use Rattle.cp_collapse.specs.Property.{Has}
use Rattle.cp_collapse.specs.Cycles.{StartsPath}
use Rattle.cp_collapse.proofs.cycles.is_closed_at.Goals as goal

pub returns : goal.returns
returns c =
    let closed = λ (l : Target). Has (StartsPath l.pairs c.args.node l.node) c.args.pairs.now in
    if_mapped c.new.result c.map.result (λ leading found gathered k.
    let told : IsTrue found ↔ closed leading = search rules in
    (λ r. subst closed gathered (told.0 r), λ h. told.1 (subst closed (sym gathered) h))) c.new.ensures c.map.ensures.cases
