use Rattle.std.proofs.Common.{◌≡◌, ◌++◌, drop}
use Rattle.cp_model.specs.Strand.{variables_of_trace}
use Rattle.cp_report.specs.Skeletons.{declared_in_prefix}
use Rattle.cp_stated.proofs.instances.declared_in_prefix.Given as goal

abbrev pub invariant-loop-number : goal.invariant-loop-number
invariant-loop-number l =
    l.declared ++ declared_in_prefix (variables_of_trace l.prefix) l.number (drop l.number l.variables)
    ≡ declared_in_prefix (variables_of_trace l.prefix) 0 l.variables
