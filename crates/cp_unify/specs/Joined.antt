-- Bindings that do what some bindings do, and then others.
use Rattle.std.specs.Prelude.{List, ◌++◌, map}
use Rattle.cp_model.specs.Term.{apply_to}
use Rattle.cp_unify.specs.Bindings.{Binding, as_substitution}

-- The binding with its term under others.
abbrev pub moved : List Binding → Binding → Binding
moved q b = record { variable = b.variable; term = apply_to (as_substitution q) b.term }

-- The bindings r with their terms under q, and q.
abbrev pub joined_bindings : List Binding → List Binding → List Binding
joined_bindings r q = map (moved q) r ++ q
