use Rattle.std.proofs.Common.{◌≡◌, ◌≤◌}
use Rattle.std.specs.Option.{option_map}
use Rattle.cp_term.specs.Size.{term_size}
use Rattle.cp_unify.specs.Matched.{is_listed, matched}
use Rattle.cp_unify.proofs.matcher.+add_match.Given as goal

abbrev pub decreases-add_match : goal.decreases-add_match
decreases-add_match l = term_size l.pattern.now

-- what is found is what is found of the rest beside what was found so far
abbrev pub invariant-loop-first : goal.invariant-loop-first
invariant-loop-first l = (term_size l.left ≤ term_size l.pattern) × (matched (is_listed (option_map (λ xs. xs.now) l.locals)) l.pattern l.term l.fn.found ≡ matched (is_listed (option_map (λ xs. xs.now) l.locals)) l.left l.right l.found)

abbrev pub decreases-loop-first : goal.decreases-loop-first
decreases-loop-first l = term_size l.left
