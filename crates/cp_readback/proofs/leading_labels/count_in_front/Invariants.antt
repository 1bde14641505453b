use Rattle.std.proofs.Common.{◌≡◌, ◌+◌, ◌≤◌, length, map, drop}
use Rattle.cp_sexpr.specs.View.{view}
use Rattle.cp_report.specs.Heads.{has_head}
use Rattle.cp_readback.specs.InFront.{leading}
use Rattle.cp_readback.proofs.leading_labels.count_in_front.Given as goal

abbrev pub invariant-loop-place : goal.invariant-loop-place
invariant-loop-place l =
    (l.place + leading (has_head (map (λ w. w.now) l.heads)) (map view (drop l.place l.forms)) ≡ leading (has_head (map (λ w. w.now) l.heads)) (map view l.forms))
    × (l.place ≤ length l.forms)
