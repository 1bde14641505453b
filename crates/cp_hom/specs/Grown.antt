-- Lists that are being made, and what is true of them unless memory ran out.
use Rattle.std.specs.Prelude.{◌≡◌, List, false}
use Rattle.cp_base.specs.Growing.{Growth}

-- Unless memory ran out, the fact is true of the list before and the list now, and it had not run out before.
abbrev pub UnlessOut : {T : Type 0} → (List T → List T → Type 0) → Growth T → Growth T → Type 0
UnlessOut fact old new = new.ran_out ≡ false → (old.ran_out ≡ false) × fact old.items new.items
