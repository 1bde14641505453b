use Rattle.std.proofs.Common.{[], ◌∷◌, take}
use Rattle.cp_lists.specs.Lists.{IsIn}
use Rattle.cp_search.specs.Reachability.{AddsToRows}
use Rattle.cp_search.proofs.reachability.put_each.Given as goal

abbrev pub invariant-loop-row : goal.invariant-loop-row
invariant-loop-row l = AddsToRows (λ n m. IsIn n (take l.row-index l.chosen) × IsIn m (l.number ∷ [])) l.initial.rows.items l.rows.items
