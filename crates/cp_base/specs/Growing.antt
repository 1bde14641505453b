-- A list that is being made and remembers that memory ran out, as contracts see it.
use Rattle.std.specs.Prelude.{◌≡◌, List, ◌++◌, map, Bool, true, false}

-- The items so far, and whether memory ran out.
pub record Growth (T : Type 0) : Type 0 where
  pub items : List T
  pub ran_out : Bool

abbrev pub growth : {T : Type 0} → List T → Bool → Growth T
growth items ran_out = record { items = items; ran_out = ran_out }

-- The same with what is seen of each item.
abbrev pub seen : {A B : Type 0} → (A → B) → Growth A → Growth B
seen f g = growth (map f g.items) g.ran_out

-- A list was to grow by these items: it grew by all of them, or, if memory ran out, by a front of them; once it had run out,
-- by none.
pub record Grows {T : Type 0} (old new : Growth T) (items : List T) : Type 0 where
  pub whole : new.ran_out ≡ false → (old.ran_out ≡ false) × (new.items ≡ old.items ++ items)
  pub part : (front back : List T) × (items ≡ front ++ back) × (new.items ≡ old.items ++ front)
  pub still : old.ran_out ≡ true → new ≡ old
