use Rattle.cp_cohort.specs.Widening.{NoneGives}
use Rattle.cp_cohort.proofs.widening.first_widening.Given as goal

abbrev pub invariant-loop-number : goal.invariant-loop-number
invariant-loop-number g l = NoneGives (g.S.GivesPatterns.gives l.source) l.children l.from → NoneGives (g.S.GivesPatterns.gives l.source) l.children l.number
