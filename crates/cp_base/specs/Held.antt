-- The bytes of a text, by what it is held in.
use Rattle.std.specs.Prelude.{ℕ, List}
use Rattle.std.specs.String.{string_bytes}
use Rattle.cp_base.specs.declared.text.Held.{Held}
use Rattle.cp_base.specs.declared.text.Held.TheVariants.{Short, Long}

abbrev pub bytes_of : Held → List ℕ
bytes_of (Short s) = s.bytes
bytes_of (Long s) = string_bytes s
