use Rattle.std.proofs.Common.{◌≡◌, map, drop}
use Rattle.cp_sexpr.specs.View.{view}
use Rattle.cp_report.specs.Heads.{lines_from}
use Rattle.cp_readback.specs.Lines.{line_view}
use Rattle.cp_readback.proofs.order.lines_from.Given as goal

abbrev pub invariant-loop-place : goal.invariant-loop-place
invariant-loop-place l = lines_from (view l.form) (map line_view (drop l.place l.lines)) ≡ lines_from (view l.form) (map line_view l.lines)
