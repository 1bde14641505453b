-- The identifiers that maplets map.
use Rattle.std.specs.Prelude.{ℕ, List, [], ◌∷◌, ◌++◌}
use Rattle.cp_sexpr.specs.Syntax.{Form}
use Rattle.cp_language.specs.Problems.{mapped_identifier}

-- The identifiers that these maplets map, in order.
abbrev pub mapped_names : List Form → List (List ℕ)
mapped_names [] = []
mapped_names (f ∷ fs) = mapped_identifier f ++ mapped_names fs
