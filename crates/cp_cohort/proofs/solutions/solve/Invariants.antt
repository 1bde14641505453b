use Rattle.cp_cohort.proofs.Ranked.{rank}
use Rattle.cp_cohort.proofs.solutions.solve.Given as goal

abbrev pub ghosts-leaves : goal.ghosts-leaves
ghosts-leaves a = record { rank = rank a.rewriting.now }
