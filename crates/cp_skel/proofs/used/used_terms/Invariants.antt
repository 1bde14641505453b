use Rattle.std.proofs.Common.{◌≡◌, ◌++◌, drop}
use Rattle.cp_model.specs.Strand.{variables_of_trace}
use Rattle.cp_skel.specs.Events.{variables_of_located}
use Rattle.cp_skel.proofs.used.used_terms.Given as goal

-- with what is left, all messages are there
abbrev pub invariant-loop-occurrence : goal.invariant-loop-occurrence
invariant-loop-occurrence l = variables_of_trace l.events.items ++ variables_of_located (drop l.occurrence-index l.occurrence-items) ≡ variables_of_located l.occurrence-items
