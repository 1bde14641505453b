use Rattle.std.proofs.Common.{◌++◌, map, sym, ap, ◌∙◌, subst}
use Rattle.cp_sexpr.specs.View.{view}
use Rattle.cp_language.specs.Roles.{item_or_none, items_behind}
use Rattle.cp_language.specs.Problems.{is_precedes_item, pairs_if}
use Rattle.cp_load.specs.Acyclic.{IsAcyclicUpTo}
use Rattle.cp_load.proofs.bodies.item_faults.Goals as goal

pub order_item_faults-requires : goal.order_item_faults-requires
order_item_faults-requires c =
    let is =
    ap (λ h. pairs_if (is_precedes_item (item_or_none h)) (items_behind h)) (sym c.in-Some.ensures)
    ∙ ap (λ k. pairs_if (is_precedes_item k) (map view c.in-Some.list.items.now)) (sym c.in-Precedes.ensures) in
    subst (λ ps. IsAcyclicUpTo c.args.acyclic_count (c.args.before.now.items ++ ps)) is c.requires
