use Rattle.std.proofs.Common.{◌≡◌, ◌++◌, drop}
use Rattle.cp_model.specs.Problem.{variables_of_terms}
use Rattle.cp_model.specs.Strand.{variables_of_trace}
use Rattle.cp_skel.proofs.used.add_terms.Given as goal

-- with what is left, all is there
abbrev pub invariant-loop-term : goal.invariant-loop-term
invariant-loop-term l =
    variables_of_trace l.events.items ++ variables_of_terms (drop l.term-index l.terms) ≡ variables_of_trace l.initial.events.items ++ variables_of_terms l.terms
