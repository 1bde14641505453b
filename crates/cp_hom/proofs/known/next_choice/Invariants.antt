use Rattle.std.proofs.Common.{◌≤◌}
use Rattle.cp_hom.specs.PartialMaps.{partial_view}
use Rattle.cp_hom.specs.Choices.{ArePassed}
use Rattle.cp_hom.proofs.known.next_choice.Given as goal

abbrev pub invariant-loop-number : goal.invariant-loop-number
invariant-loop-number l = (l.from ≤ l.number) × ArePassed l.a l.b l.item (partial_view l.given) l.from l.number
