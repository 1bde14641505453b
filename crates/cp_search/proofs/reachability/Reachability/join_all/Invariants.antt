use Rattle.std.proofs.Common.{◌≡◌, take}
use Rattle.cp_lists.specs.Lists.{IsIn}
use Rattle.cp_search.proofs.JoinedRows.{JoinsEach}
use Rattle.cp_search.proofs.reachability.Reachability.join_all.Given as goal

abbrev pub invariant-loop-source : goal.invariant-loop-source
invariant-loop-source l = JoinsEach (λ k n m. (k ≡ n) × IsIn m l.targets) (take l.source-index l.sources) l.fn.self l.self

abbrev pub invariant-loop-target : goal.invariant-loop-target
invariant-loop-target l = JoinsEach (λ k n m. (l.source ≡ n) × (k ≡ m)) (take l.target-index l.targets) l.initial.self l.self
