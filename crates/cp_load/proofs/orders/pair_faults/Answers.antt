use Rattle.std.proofs.Common.{◌++◌, sym, subst}
use Rattle.cp_scope.proofs.Views.{list_items-view}
use Rattle.cp_load.specs.Acyclic.{IsAcyclicIf, pair_of_items}
use Rattle.cp_load.proofs.orders.pair_faults.Goals as goal

pub pair_items_faults-requires : goal.pair_items_faults-requires
pair_items_faults-requires c =
    let is = list_items-view c.args.form.now c.in-List.place c.in-List.items c.as_slice.result.now c.in-List.is c.as_slice.ensures.value in
    subst (λ fs. IsAcyclicIf c.args.before.acyclic (c.args.before.pairs.now ++ pair_of_items fs)) (sym is) c.requires
