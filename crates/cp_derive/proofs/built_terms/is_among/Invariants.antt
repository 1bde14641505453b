use Rattle.std.proofs.Common.{drop}
use Rattle.cp_lists.specs.Lists.{IsIn}
use Rattle.cp_derive.proofs.built_terms.is_among.Given as goal

-- if the term is in the list, it is in what is left of it
abbrev pub invariant-loop-other : goal.invariant-loop-other
invariant-loop-other l = IsIn l.term l.terms → IsIn l.term (drop l.other-index l.terms)
