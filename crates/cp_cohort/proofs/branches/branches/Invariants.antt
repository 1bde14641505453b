use Rattle.std.proofs.Common.{take, map}
use Rattle.cp_cohort.specs.Stages.{choices}
use Rattle.cp_cohort.specs.Candidates.{choice_of, AreBranchesByChoices}
use Rattle.cp_cohort.proofs.BranchLoops.{PutsBranches}
use Rattle.cp_cohort.proofs.branches.branches.Given as goal

abbrev pub invariant-loop-encryption : goal.invariant-loop-encryption
invariant-loop-encryption l = AreBranchesByChoices l.tried (choices (take l.encryption-index l.encryptions) l.patterns) l.branches.items

abbrev pub invariant-loop-pattern : goal.invariant-loop-pattern
invariant-loop-pattern l = PutsBranches l.tried (map (choice_of l.encryption) (take l.pattern-index l.patterns)) l.initial.branches.items l.branches.items
