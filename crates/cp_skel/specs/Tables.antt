-- Tables of variables.
use Rattle.std.specs.Prelude.{◌≡◌, List}
use Rattle.cp_lists.specs.Lists.{IsIn}
use Rattle.cp_model.specs.declared.variable.Declaration.{Declaration}
use Rattle.cp_model.specs.Skeleton.{Skeleton}

-- The new skeleton has a table of its own, and all else from the old one.
abbrev pub DiffersInTable : Skeleton → Skeleton → Type 0
DiffersInTable old new = new ≡ record old { variables = new.variables }

-- Each of the skeletons has this table.
abbrev pub HaveTable : List Declaration → List Skeleton → Type 0
HaveTable variables ks = (k : Skeleton) → IsIn k ks → k.variables ≡ variables
