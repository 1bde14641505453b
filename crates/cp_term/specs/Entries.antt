-- Entries of the table of variables.
use Rattle.std.specs.Prelude.{List, [], Some, None}
use Rattle.std.specs.declared.option.Option.{Option}
use Rattle.std.specs.declared.alloc.Global.{Global}
use Rattle.std.specs.declared.rc.Rc.{Rc}
use Rattle.std.specs.declared.vec.Vec.{Vec}
use Rattle.cp_model.specs.declared.variable.Declaration.{Declaration}
use Rattle.cp_term.specs.declared.variable.Entry.{Entry}

-- What an entry is seen as.
abbrev pub declared_by : Entry → Declaration
declared_by e = record { identifier = e.root.value; sort = e.sort }

-- The entries that a table shares with its copies.
abbrev pub shared_entries : Option (Rc (Vec Entry Global) Global) → List Entry
shared_entries (Some entries) = entries.value.items
shared_entries None = []
