-- The lines of a label form as the program keeps them.
use Rattle.std.specs.Prelude.{map}
use Rattle.cp_report.specs.Heads as report
use Rattle.cp_readback.specs.declared.order.Line.{Line}

abbrev pub line_view : Line → report.Line
line_view l = record { heads = map (λ w. w.now) l.heads.now; repeats = l.repeats }
