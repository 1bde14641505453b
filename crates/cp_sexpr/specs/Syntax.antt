-- What a form is: plain data, without where it lies in memory.
use Rattle.std.specs.Prelude.{ℕ, List, [], ◌∷◌}
use Rattle.cp_base.specs.declared.place.Place.{Place}

-- A form has the place of its first byte.
mutual
  pub data Form : Type 0 where
    symbol : Place → List ℕ → Form
    string : Place → List ℕ → Form
    number : Place → ℕ → Form
    list : Place → Forms → Form

  pub data Forms : Type 0 where
    none : Forms
    more : Form → Forms → Forms

-- the forms of a list, in their order
abbrev pub forms_of : List Form → Forms
forms_of [] = none
forms_of (f ∷ fs) = more f (forms_of fs)

-- the first forms, and then the second
abbrev pub append : Forms → Forms → Forms
append none gs = gs
append (more f fs) gs = more f (append fs gs)
