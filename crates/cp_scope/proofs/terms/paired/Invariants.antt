use Rattle.std.proofs.Common.{◌≡◌, [], ◌∷◌, ◌++◌, vec_len}
use Rattle.cp_language.specs.Terms.{paired}
use Rattle.cp_scope.proofs.terms.paired.Given as goal

abbrev pub invariant-loop-left : goal.invariant-loop-left
invariant-loop-left l = paired (l.terms.items ++ l.right ∷ []) ≡ paired l.fn.terms.items

abbrev pub decreases-loop-left : goal.decreases-loop-left
decreases-loop-left l = vec_len l.terms
