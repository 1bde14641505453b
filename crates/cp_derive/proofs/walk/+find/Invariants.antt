use Rattle.std.proofs.Common.{◌≤◌, ◌≡◌, take}
use Rattle.cp_term.specs.Size.{term_size}
use Rattle.cp_derive.specs.Given.{IsDerivable}
use Rattle.cp_derive.proofs.Walks.{LeadsUp}
use Rattle.cp_derive.proofs.walk.+find.Given as goal

abbrev pub decreases-find : goal.decreases-find
decreases-find l = term_size l.whole.now

-- what is found in the rest is what is looked for
abbrev pub invariant-loop-left : goal.invariant-loop-left
invariant-loop-left l = record {
  smaller : term_size l.rest ≤ term_size l.whole;
  kept : take l.start l.here ≡ l.initial.here;
  leads : LeadsUp l.known l.whole l.initial.here l.rest l.here;
  derivable : IsDerivable l.known l.rest → IsDerivable l.known l.whole;
}

abbrev pub decreases-loop-left : goal.decreases-loop-left
decreases-loop-left l = term_size l.rest
