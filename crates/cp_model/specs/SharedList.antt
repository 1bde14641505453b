-- The items of a list, by what holds them.
use Rattle.std.specs.Prelude.{List}
use Rattle.cp_model.specs.declared.shared_list.Held.{Held}
use Rattle.cp_model.specs.declared.shared_list.Held.TheVariants.{Shared, Own}

abbrev pub held_items : {T : Type 0} → Held T → List T
held_items (Shared items) = items.value.items
held_items (Own items) = items.items
