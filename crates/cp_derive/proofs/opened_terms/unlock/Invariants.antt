use Rattle.std.proofs.Common.{◌≤◌, ◌<◌, ◌≡◌, ◌-◌, true, false, drop}
use Rattle.cp_lists.specs.Lists.{IsIn}
use Rattle.cp_derive.specs.Buildable.{Builds}
use Rattle.cp_derive.specs.OpenedTerms.{weight, Advances}
use Rattle.cp_derive.specs.declared.opened_terms.Locked.{Locked}
use Rattle.cp_derive.proofs.opened_terms.unlock.Given as goal

-- as long as nothing was opened, what can be opened is among what is left
abbrev pub invariant-loop-place : goal.invariant-loop-place
invariant-loop-place l = record {
  advances : Advances l.secrets l.initial.opening l.opening;
  weighs : weight l.opening ≤ weight l.initial.opening;
  falls : l.some ≡ true → weight l.opening < weight l.initial.opening;
  done : l.some ≡ false → (x : Locked) → IsIn x l.opening.locked.items → Builds l.secrets l.opening.held.items x.inverse → IsIn x (drop l.place l.opening.locked.items);
}

abbrev pub decreases-loop-place : goal.decreases-loop-place
decreases-loop-place l = weight l.opening - l.place
