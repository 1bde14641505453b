-- Roles and protocols of the program by their names.
use Rattle.std.specs.Prelude.{ℕ, List, [], ◌∷◌, ◌++◌, map, Bool, if◌then◌else◌, Option, Some, None}
use Rattle.std.specs.declared.rc.Rc.{Rc}
use Rattle.std.specs.declared.alloc.Global.{Global}
use Rattle.cp_model.specs.Strand as strand
use Rattle.cp_language.specs.Roles.{Headed, is_role_item, role_of}
use Rattle.cp_language.specs.Words.{item_head}

abbrev pub shared_roles_view : List (Rc strand.Role Global) → List strand.Role
shared_roles_view = map (λ r. r.value)

abbrev pub names_of_roles : List strand.Role → List (List ℕ)
names_of_roles [] = []
names_of_roles (r ∷ rs) = r.name ∷ names_of_roles rs

abbrev pub role_names : List (Rc strand.Role Global) → List (List ℕ)
role_names rs = names_of_roles (shared_roles_view rs)

-- The roles with that of an item behind them, if it defines one.
abbrev pub role_behind : Bool → List strand.Role → strand.Role → List strand.Role
role_behind b rs r = if b then rs ++ r ∷ [] else rs

abbrev pub with_role : List strand.Role → Option Headed → List strand.Role
with_role rs None = rs
with_role rs (Some h) = role_behind (is_role_item (item_head h.head)) rs (role_of h.items)
