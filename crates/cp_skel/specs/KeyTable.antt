-- Keys of items, if there is a table of them.
use Rattle.std.specs.Prelude.{IfSome}
use Rattle.cp_lists.specs.Lists.{IsIn}
use Rattle.cp_model.specs.Term.{Term}
use Rattle.cp_skel.specs.declared.keys.Keys.{Keys}

-- The table has the key, if there is one.
abbrev pub HasKey : Keys → Term → Type 0
HasKey keys t = IfSome keys.table (λ terms. IsIn t terms)
