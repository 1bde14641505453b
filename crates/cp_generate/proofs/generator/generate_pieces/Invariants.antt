use Rattle.std.proofs.Common.{◌++◌, length}
use Rattle.cp_generate.specs.Generated.{generated_parts, generated_text, part_ends}
use Rattle.cp_generate.proofs.StillToPut.{left, Lack}
use Rattle.cp_generate.proofs.generator.generate_pieces.Given as goal

abbrev pub invariant-loop-number : goal.invariant-loop-number
invariant-loop-number l =
    Lack (left l.n l.number) l.text.items l.ends.items (l.fn.text.items ++ generated_text l.n) (l.fn.ends.items ++ part_ends (length l.fn.text.items) (generated_parts l.n))
