-- What tables of variables list.
use Rattle.std.specs.Prelude.{ℕ, List, map}
use Rattle.cp_model.specs.Strand.{Declaration}
use Rattle.cp_model.specs.declared.sort.Sort.{Sort}

-- The identifiers that the variables are named after.
abbrev pub roots : List Declaration → List (List ℕ)
roots = map (λ d. d.identifier)

-- The sorts of the variables.
abbrev pub sorts : List Declaration → List Sort
sorts = map (λ d. d.sort)
